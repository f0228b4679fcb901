-- The changes that a step makes to what the bays share: an index moves, a slot is stored in, a call is turned away. Assumes nothing.
use Rattle.std.proofs.Common.{◌≡◌, ℕ, ◌+◌, ◌%◌, ◌<◌, ◌≤◌, true, false, List, [], ◌∷◌, ◌++◌, length, get_or, set, is_some, Some, None, Option, sym, refl, ap, ◌∙◌, subst, inl, inr, arith}
use Rattle.std.specs.List.{slice_get}
use Rattle.std.proofs.lemmas.Bool.{false≢true, true≢false, eqb-false}
use Rattle.std.proofs.lemmas.List.{get_or-set_other}
use Rattle.slot_memory.specs.declared.Cell.{Cell}
use Rattle.slot_memory.specs.declared.Cell.TheVariants.{Slot, At}
use Rattle.dock_rules.specs.Words.{Side, Putting, Taking}
use Rattle.dock_rules.specs.History.{PutOf, TakeOf, Running, Placed, place}
use Rattle.dock_rules.specs.Law.{plain, queue, gives, places}
use Rattle.dock_rules.proofs.Sound.{own}
use Rattle.dock_rules.specs.declared.Outcome.TheVariants.{Taken}
use Rattle.dock_rules.proofs.Shared.{Shared, held_by, tail_slot_held, head_slot_empty}
use Rattle.dock_rules.proofs.Knows.{View, count, wait, Behind, Ready, queue_of, pos, content, First, answer, Waits, Counted, Kept, Change, killed}
use Rattle.dock_rules.proofs.Placing.{plain_put, places_self, places_other, gives_self, gives_other, placed_other, nth_push}

module _ {E : Type 0} (L base now : ℕ) where
  -- all that the bays share, of a view
  abbrev pub Sharing : View E → Type 0
  Sharing v = Shared L v.H v.T v.slots v.puts v.takes (queue_of L base v)

  -- one call more is placed
  abbrev pub placing : View E → Running E → List (Placed E)
  placing v w = place now w ∷ v.ps

  -- the index moves, and the call that waited for it is placed
  abbrev pub moving : Side → View E → Running E → View E
  moving Putting v w = record { T = v.T + 1; H = v.H; slots = v.slots; puts = []; takes = v.takes; ps = placing v w }
  moving Taking v w = record { T = v.T; H = v.H + 1; slots = v.slots; puts = v.puts; takes = []; ps = placing v w }

  -- the slot at the index is stored in, and the call waits
  abbrev pub storing : Side → View E → Running E → Option E → View E
  storing Putting v w x = record { T = v.T; H = v.H; slots = set v.slots (v.T % L) x; puts = w ∷ []; takes = v.takes; ps = v.ps }
  storing Taking v w x = record { T = v.T; H = v.H; slots = set v.slots (v.H % L) x; puts = v.puts; takes = w ∷ []; ps = v.ps }

  -- the call is turned away: it is placed, and nothing else changes
  abbrev pub turning : View E → Running E → View E
  turning v w = record { T = v.T; H = v.H; slots = v.slots; puts = v.puts; takes = v.takes; ps = placing v w }

  -- a call that has its place keeps it
  counted_stays : (v u : View E) (w : Running E) (d : Side) (r : Running E) (tr : Option E) → places w.serial v.ps ≡ [] → u.ps ≡ placing v w → count v d ≤ count u d → Counted L base v d r tr → Counted L base u d r tr
  counted_stays v u w d r tr none is le k =
      let other = placed_other L (place now w) v.ps r.serial k.moment none k.place in
      record {
        past = omega (arith, k.past);
        moment = k.moment;
        place = ap (places r.serial) is ∙ places_other L (place now w) v.ps r.serial other ∙ k.place;
        since = k.since;
        gives = ap (gives L r.serial) is ∙ gives_other L (place now w) v.ps r.serial other ∙ k.gives;
      }

  -- the call that waited is placed, and the plain queue answers it as it will be answered
  waited_counts : (v u : View E) (w : Running E) (d : Side) (r : Running E) (tr : Option E) → places w.serial v.ps ≡ [] → u.ps ≡ placing v w → count u d ≡ count v d + 1 → w.serial ≡ r.serial → r.since < now → pos L base r ≡ count v d → (plain L (queue_of L base v) w.request).0 ≡ answer d tr → Counted L base u d r tr
  waited_counts v u w d r tr none is up same since at answers =
      record {
        past = omega arith;
        moment = now;
        place = ap (places r.serial) is ∙ places_self L (place now w) v.ps r.serial same (ap (λ x. places x v.ps) (sym same) ∙ none);
        since = since;
        gives = ap (gives L r.serial) is ∙ gives_self L (place now w) v.ps r.serial same ∙ ap Some answers;
      }

  -- a call that waits goes on waiting while its index stays
  waits_stay : (v u : View E) (d : Side) (r : Running E) (tr : Option E) → count u d ≡ count v d → wait u d ≡ wait v d → First L base u d tr → Waits L base v d r tr → Waits L base u d r tr
  waits_stay v u d r tr same waits first k =
      record { at = k.at ∙ sym same; it = k.it; only = waits ∙ k.only; serial = k.serial; first = first }

  -- the plain queue gives its first to a take
  plain_take_lem : (q : List E) → 0 < length q → (plain L q TakeOf).0 ≡ (Taken, slice_get q 0)
  plain_take_lem q h = grind arith

  -- a tray that holds something is not empty
  some_is_not_none : (tr : Option E) → is_some tr ≡ true → tr ≡ None → ⊥
  some_is_not_none tr some none = false≢true (sym (ap is_some none) ∙ some)

  -- lists of one that are the same hold the same
  same_first : (x y : Running E) → (x ∷ []) ≡ (y ∷ []) → x ≡ y
  same_first x y e = cc

  -- Tail moves: the put that waited is placed, and the first of the queue stays for a take that waits
  pub tail_change : (v : View E) (w : Running E) (e : E) → Sharing v → v.puts ≡ w ∷ [] → w.request ≡ PutOf e → places w.serial v.ps ≡ [] → Change L base now v (moving Putting v w) (Some (At (own Putting)))
  tail_change v w e sh one asked none =
      let u = moving Putting v w in
      let at_tail = subst (λ pt. Shared L v.H v.T v.slots pt v.takes (queue_of L base v)) one sh in
      let held = tail_slot_held L v.H v.T v.slots w [] v.takes (queue_of L base v) at_tail in
      let put = plain_put L (queue_of L base v) e (omega (arith, at_tail.room)) in
      let grown : queue_of L base u ≡ queue_of L base v ++ e ∷ [] = ap (λ a. (plain L (queue_of L base v) a).1) asked ∙ ap (λ a. a.1) put in
      record {
        counts = elim [ Putting ↦ omega arith | Taking ↦ omega arith ];
        lims = elim [ Putting ↦ omega arith | Taking ↦ omega arith ];
        moves = elim [ Putting ↦ λ k. absurd (true≢false k) | Taking ↦ λ k. refl ];
        behind = elim [ Putting ↦ λ k same. absurd (omega arith) | Taking ↦ λ k same. k ];
        ready = elim [ Putting ↦ λ i tr k rd. rd | Taking ↦ λ i tr k rd. rd ];
        stays = elim [
          | Putting ↦ λ tr some rd. absurd (some_is_not_none (Some e) refl (sym (held ∙ ap held_by asked) ∙ rd))
          | Taking ↦ λ tr some rd. refl
        ];
        kept = elim [
          | Putting ↦ λ r tr since. elim [
            | inl k ↦ inr (waited_counts v u w Putting r tr none refl refl (ap (λ x. x.serial) (same_first w k.it (sym one ∙ k.only)) ∙ k.serial) since k.at (ap (λ a. (plain L (queue_of L base v) a).0) asked ∙ ap (λ a. a.0) put))
            | inr k ↦ inr (counted_stays v u w Putting r tr none refl (omega arith) k)
          ]
          | Taking ↦ λ r tr since. elim [
            | inl k ↦ inl (waits_stay v u Taking r tr refl refl (ap (λ l. slice_get l 0) grown ∙ nth_push L (queue_of L base v) e (omega (arith, sh.first, ap length k.only)) ∙ k.first) k)
            | inr k ↦ inr (counted_stays v u w Taking r tr none refl (omega arith) k)
          ]
        ];
      }

  -- Head moves: the take that waited is placed, and is given what it holds, the first of the queue
  pub head_change : (v : View E) (w : Running E) → Sharing v → v.takes ≡ w ∷ [] → w.request ≡ TakeOf → places w.serial v.ps ≡ [] → Change L base now v (moving Taking v w) (Some (At (own Taking)))
  head_change v w sh one asked none =
      let u = moving Taking v w in
      let at_head = subst (λ tk. Shared L v.H v.T v.slots v.puts tk (queue_of L base v)) one sh in
      let emptied = head_slot_empty L v.H v.T v.slots v.puts w [] (queue_of L base v) at_head in
      let took = plain_take_lem (queue_of L base v) (omega (arith, at_head.first)) in
      record {
        counts = elim [ Putting ↦ omega arith | Taking ↦ omega arith ];
        lims = elim [ Putting ↦ omega arith | Taking ↦ omega arith ];
        moves = elim [ Putting ↦ λ k. refl | Taking ↦ λ k. absurd (true≢false k) ];
        behind = elim [ Putting ↦ λ k same. k | Taking ↦ λ k same. absurd (omega arith) ];
        ready = elim [ Putting ↦ λ i tr k rd. rd | Taking ↦ λ i tr k rd. rd ];
        stays = elim [ Putting ↦ λ tr some rd. refl | Taking ↦ λ tr some rd. absurd (some_is_not_none tr some (sym rd ∙ emptied)) ];
        kept = elim [
          | Putting ↦ λ r tr since. elim [
            | inl k ↦ inl (waits_stay v u Putting r tr refl refl tt k)
            | inr k ↦ inr (counted_stays v u w Putting r tr none refl (omega arith) k)
          ]
          | Taking ↦ λ r tr since. elim [
            | inl k ↦ inr (waited_counts v u w Taking r tr none refl refl (ap (λ x. x.serial) (same_first w k.it (sym one ∙ k.only)) ∙ k.serial) since k.at (ap (λ a. (plain L (queue_of L base v) a).0) asked ∙ took ∙ ap (λ x. (Taken, x)) k.first))
            | inr k ↦ inr (counted_stays v u w Taking r tr none refl (omega arith) k)
          ]
        ];
      }

  -- a queue that stays keeps its first
  same_front : (v u : View E) (d : Side) (tr : Option E) → queue_of L base u ≡ queue_of L base v → First L base v d tr → First L base u d tr
  same_front v u d tr same k = grind arith

  -- a call that is placed already stays so where the places and its side's count do not change
  counted_rests : (v u : View E) (d : Side) (r : Running E) (tr : Option E) → count u d ≡ count v d → u.ps ≡ v.ps → Counted L base v d r tr → Counted L base u d r tr
  counted_rests v u d r tr same ps k =
      record {
        past = omega (arith, k.past);
        moment = k.moment;
        place = ap (places r.serial) ps ∙ k.place;
        since = k.since;
        gives = ap (gives L r.serial) ps ∙ k.gives;
      }

  -- a call that is placed already, or waits, where nothing that this rests on changes
  rests : (v u : View E) (d : Side) (r : Running E) (tr : Option E) → count u d ≡ count v d → u.ps ≡ v.ps → wait u d ≡ wait v d → Kept L base v d r tr → Kept L base u d r tr
  rests v u d r tr same ps waits = elim [
    | inl k ↦ inl (waits_stay v u d r tr same waits (same_front v u d tr (ap (queue L) ps) k.first) k)
    | inr k ↦ inr (counted_rests v u d r tr same ps k)
  ]

  -- no call waits where another stores
  alone : (v u : View E) (d : Side) (r : Running E) (tr : Option E) → wait v d ≡ [] → count u d ≡ count v d → u.ps ≡ v.ps → Kept L base v d r tr → Kept L base u d r tr
  alone v u d r tr none same ps = elim [
    | inl k ↦ (let z : ◌≡◌ {A = ℕ} 0 1 = sym (ap length none) ∙ ap length k.only in absurd (omega arith))
    | inr k ↦ inr (counted_rests v u d r tr same ps k)
  ]

  -- where no index moves, the calls that wait, the slots and the calls that are kept are left to show
  unmoved : (v u : View E) (kill : Option Cell) → u.T ≡ v.T → u.H ≡ v.H → ((d : Side) → Behind v d → Behind u d) → ((d : Side) (i : ℕ) (tr : Option E) → killed kill (Slot (i % L)) ≡ false → Ready L base v d i tr → Ready L base u d i tr) → ((d : Side) (r : Running E) (tr : Option E) → Kept L base v d r tr → Kept L base u d r tr) → Change L base now v u kill
  unmoved v u kill tail head behind ready kept =
      record {
        counts = elim [ Putting ↦ omega arith | Taking ↦ omega arith ];
        lims = elim [ Putting ↦ omega arith | Taking ↦ omega arith ];
        moves = elim [ Putting ↦ λ k. tail | Taking ↦ λ k. head ];
        behind = λ d k same. behind d k;
        ready = ready;
        stays = elim [ Putting ↦ λ tr some rd. tail | Taking ↦ λ tr some rd. head ];
        kept = λ d r tr since. kept d r tr;
      }

  -- a store in one slot leaves what the others hold
  elsewhere : (v : View E) (x : Option E) (c i : ℕ) → killed (Some (Slot (c % L))) (Slot (i % L)) ≡ false → get_or (set v.slots (c % L) x) (i % L) None ≡ content L base v i
  elsewhere v x c i k = get_or-set_other v.slots (c % L) (i % L) x None (eqb-false (i % L) (c % L) k)

  -- a slot store moves no index and places no call
  pub store_change : (d : Side) (v : View E) (w : Running E) (x : Option E) → wait v d ≡ [] → Change L base now v (storing d v w x) (Some (Slot (count v d % L)))
  store_change Putting v w x none =
      let u = storing Putting v w x in
      unmoved v u _ refl refl
      (elim [ Putting ↦ λ k. omega arith | Taking ↦ λ k. k ])
      (elim [ Putting ↦ λ i tr k rd. elsewhere v x v.T i k ∙ rd | Taking ↦ λ i tr k rd. elsewhere v x v.T i k ∙ rd ])
      (elim [ Putting ↦ λ r tr. alone v u Putting r tr none refl refl | Taking ↦ λ r tr. rests v u Taking r tr refl refl refl ])
  store_change Taking v w x none =
      let u = storing Taking v w x in
      unmoved v u _ refl refl
      (elim [ Putting ↦ λ k. k | Taking ↦ λ k. omega arith ])
      (elim [ Putting ↦ λ i tr k rd. elsewhere v x v.H i k ∙ rd | Taking ↦ λ i tr k rd. elsewhere v x v.H i k ∙ rd ])
      (elim [ Putting ↦ λ r tr. rests v u Putting r tr refl refl refl | Taking ↦ λ r tr. alone v u Taking r tr none refl refl ])

  -- a call turned away leaves the plain queue, so nothing that another rests on changes
  pub turn_change : (v : View E) (w : Running E) → places w.serial v.ps ≡ [] → queue L (placing v w) ≡ queue L v.ps → Change L base now v (turning v w) None
  turn_change v w none same =
      let u = turning v w in
      unmoved v u _ refl refl (λ d k. k) (elim [ Putting ↦ λ i tr k rd. rd | Taking ↦ λ i tr k rd. rd ])
      (λ d r tr. elim [
        | inl k ↦ inl (waits_stay v u d r tr (sames d) (waits d) (same_front v u d tr same k.first) k)
        | inr k ↦ inr (counted_stays v u w d r tr none refl (omega (arith, sames d)) k)
      ])
    where
      sames : (d : Side) → count (turning v w) d ≡ count v d
      sames d = grind arith

      waits : (d : Side) → wait (turning v w) d ≡ wait v d
      waits d = grind arith
