-- What the ring, the two counts, the waiting calls and the plain queue have to do with one another, and how that stays as an
-- index moves or a slot is stored in. Assumes nothing.
use Rattle.std.proofs.Common.{◌≡◌, ℕ, suc, ◌+◌, ◌-◌, ◌%◌, ◌<◌, ◌≤◌, List, [], ◌∷◌, ◌++◌, map, length, get_or, set, Some, None, Option, sym, refl, ap, ◌∙◌, subst, append-nil, add-zero, arith, length-append, length-set}
use Rattle.std.specs.List.{slice_get}
use Rattle.std.proofs.lemmas.List.{length-map, map-append, get_or_past, get_or_at, length_push}
use Rattle.dock_rules.specs.History.{Request, PutOf, TakeOf, Running}
use Rattle.dock_rules.proofs.Ring.{Ring, ring_read, ring_set, ring_push, ring_next}

module _ {E : Type 0} where
  -- the queue's elements as the slots hold them: a take that waits has emptied the first
  abbrev pub front : List (Running E) → List E → List (Option E)
  front [] q = map Some q
  front (r ∷ rs) [] = []
  front (r ∷ rs) (x ∷ q) = None ∷ map Some q

  -- what a request leaves in its slot
  abbrev pub held_by : Request E → Option E
  held_by (PutOf e) = Some e
  held_by TakeOf = None

  -- the slot behind the queue: a put that waits has filled it
  abbrev pub back : List (Running E) → List (Option E)
  back [] = []
  back (r ∷ rs) = held_by r.request ∷ []

  -- the ring's contents from Head on
  abbrev pub contents : List (Running E) → List (Running E) → List E → List (Option E)
  contents pt tk q = front tk q ++ back pt

  -- L slots; H and T as counts; the puts and takes that wait; the plain queue
  pub record Shared (L H T : ℕ) (slots : List (Option E)) (pt tk : List (Running E)) (q : List E) : Type 0 where
    pub some : 0 < L
    pub long : length slots ≡ L
    pub tail : T ≡ H + length q
    pub room : length q + length pt ≤ L
    pub one_put : length pt ≤ 1
    pub one_take : length tk ≤ 1
    pub first : length tk ≤ length q
    pub ring : Ring L H slots (contents pt tk q)

  -- a waiting take's slot still counts
  length_front : (tk : List (Running E)) (q : List E) → length tk ≤ length q → length (front tk q) ≡ length q
  length_front [] q h = length-map q Some
  length_front (r ∷ rs) [] h = refl
  length_front (r ∷ rs) (x ∷ q) h = ap suc (length-map q Some)

  -- a waiting put's slot is at most one
  length_back : (pt : List (Running E)) → length (back pt) ≤ length pt
  length_back pt = grind arith

  -- a put at the far end leaves the front
  front_push : (tk : List (Running E)) (q : List E) (e : E) → length tk ≤ length q → front tk (q ++ e ∷ []) ≡ front tk q ++ Some e ∷ []
  front_push [] q e h = map-append Some q (e ∷ [])
  front_push (r ∷ rs) [] e h = absurd (omega arith)
  front_push (r ∷ rs) (x ∷ q) e h = ap (λ l. None ∷ l) (map-append Some q (e ∷ []))

  module _ (L H T : ℕ) (slots : List (Option E)) where
    -- with no put waiting, the slot behind the queue is empty
    pub tail_slot_empty : (tk : List (Running E)) (q : List E) → Shared L H T slots [] tk q → T < H + L → get_or slots (T % L) None ≡ None
    tail_slot_empty tk q s h =
        let long = length-append (front tk q) [] in
        let same = length_front tk q s.first in
        ring_read L H T slots _ s.ring (omega (arith, s.tail)) h
        ∙ get_or_past (contents [] tk q) (T - H) None (omega (arith, s.tail, ap length (append-nil (front tk q))))

    -- with a put waiting, that slot holds its element
    pub tail_slot_held : (r : Running E) (rs : List (Running E)) (tk : List (Running E)) (q : List E) → Shared L H T slots (r ∷ rs) tk q → get_or slots (T % L) None ≡ held_by r.request
    tail_slot_held r rs tk q s =
        ring_read L H T slots _ s.ring (omega (arith, s.tail)) (omega (arith, s.tail, s.room))
        ∙ get_or_at (front tk q) (held_by r.request) [] None (T - H) (length_front tk q s.first ∙ omega (arith, s.tail))

    -- with no take waiting, the first slot holds the first element
    pub head_slot_held : (pt : List (Running E)) (q : List E) → Shared L H T slots pt [] q → H < T → get_or slots (H % L) None ≡ slice_get q 0
    head_slot_held pt [] s h = absurd (omega (arith, s.tail))
    head_slot_held pt (x ∷ q) s h = ap (λ i. get_or slots (i % L) None) (sym (add-zero H)) ∙ s.ring 0 s.some

    -- with a take waiting, it is empty
    pub head_slot_empty : (pt : List (Running E)) (r : Running E) (rs : List (Running E)) (q : List E) → Shared L H T slots pt (r ∷ rs) q → get_or slots (H % L) None ≡ None
    head_slot_empty pt r rs q s = grind arith

    -- the tail moves past the element of the put that waited, which is now in the queue
    pub tail_moves : (r : Running E) (e : E) (tk : List (Running E)) (q : List E) → r.request ≡ PutOf e → Shared L H T slots (r ∷ []) tk q → Shared L H (T + 1) slots [] tk (q ++ e ∷ [])
    tail_moves r e tk q asked s =
        let long = length_push q e in
        let same : contents [] tk (q ++ e ∷ []) ≡ contents (r ∷ []) tk q =
        append-nil (front tk (q ++ e ∷ [])) ∙ front_push tk q e s.first ∙ ap (λ a. front tk q ++ held_by a ∷ []) (sym asked)
        in record {
          some = s.some;
          long = s.long;
          tail = omega (arith, s.tail);
          room = omega (arith, s.room);
          one_put = omega arith;
          one_take = s.one_take;
          first = omega (arith, s.first);
          ring = subst (Ring L H slots) (sym same) s.ring;
        }

    -- the head moves past the slot that the take has emptied
    pub head_moves : (pt : List (Running E)) (r : Running E) (x : E) (q : List E) → Shared L H T slots pt (r ∷ []) (x ∷ q) → Shared L (H + 1) T slots pt [] q
    head_moves pt r x q s =
        let long = length-append (map Some q) (back pt) in
        let same = length-map q Some in
        record {
          some = s.some;
          long = s.long;
          tail = omega (arith, s.tail);
          room = omega (arith, s.room);
          one_put = s.one_put;
          one_take = omega arith;
          first = omega arith;
          ring = ring_next L H slots (map Some q ++ back pt) s.some s.ring (omega (arith, s.room, length_back pt));
        }

    -- a put stores behind the queue
    pub put_stores : (r : Running E) (e : E) (tk : List (Running E)) (q : List E) → r.request ≡ PutOf e → T < H + L → Shared L H T slots [] tk q → Shared L H T (set slots (T % L) (Some e)) (r ∷ []) tk q
    put_stores r e tk q asked below s =
        let plain = append-nil (front tk q) in
        let long : length (contents [] tk q) ≡ length q = ap length plain ∙ length_front tk q s.first in
        let here : H + length (contents [] tk q) ≡ T = omega (arith, s.tail) in
        let same : contents [] tk q ++ Some e ∷ [] ≡ contents (r ∷ []) tk q =
        ap (λ l. l ++ Some e ∷ []) plain ∙ ap (λ a. front tk q ++ held_by a ∷ []) (sym asked)
        in
        let pushed = ring_push L H slots (contents [] tk q) (Some e) s.some s.long s.ring (omega (arith, s.tail)) in
        record {
          some = s.some;
          long = length-set slots (T % L) (Some e) ∙ s.long;
          tail = s.tail;
          room = omega (arith, s.tail);
          one_put = omega arith;
          one_take = s.one_take;
          first = s.first;
          ring = subst (λ i. Ring L H (set slots (i % L) (Some e)) (contents (r ∷ []) tk q)) here (subst (Ring L H (set slots ((H + length (contents [] tk q)) % L) (Some e))) same pushed);
        }

    -- a take empties the first slot
    pub take_stores : (pt : List (Running E)) (r : Running E) (x : E) (q : List E) → Shared L H T slots pt [] (x ∷ q) → Shared L H T (set slots (H % L) None) pt (r ∷ []) (x ∷ q)
    take_stores pt r x q s =
        let emptied = ring_set L H 0 slots (contents pt [] (x ∷ q)) None s.some s.long s.ring s.some (omega arith) in
        record {
          some = s.some;
          long = length-set slots (H % L) None ∙ s.long;
          tail = s.tail;
          room = s.room;
          one_put = s.one_put;
          one_take = omega arith;
          first = omega arith;
          ring = subst (λ i. Ring L H (set slots (i % L) None) (contents pt (r ∷ []) (x ∷ q))) (add-zero H) emptied;
        }
