-- The law of a history holds of the history with one moment more. Assumes nothing.
use Rattle.std.proofs.Common.{◌≡◌, ℕ, suc, ◌<◌, ◌≤◌, List, [], ◌∷◌, ◌++◌, length, Some, sym, ap, ◌∙◌, subst, arith}
use Rattle.slot_memory.specs.Meaning.{index}
use Rattle.dock_rules.specs.Words.{Side, Putting, Taking}
use Rattle.dock_rules.specs.History.{Moment, Running, Placed, EndedCall, event, ended_by, untouched_by, index_in, alterations, running, stored, placed, ended, untouched, place}
use Rattle.dock_rules.specs.Law.{Each, places, gives, Apart, HasPlace}
use Rattle.dock_rules.specs.Runs.{Start, State}
use Rattle.dock_rules.proofs.Sound.{own}
use Rattle.dock_rules.proofs.Knows.{View}
use Rattle.dock_rules.proofs.Placing.{places_other, gives_other, placed_other}
use Rattle.dock_rules.proofs.Invariant.{view_of, weight, Inner, Inv}

-- what holds of each of two lists holds of each of both
pub each_append : {X : Type 0} (P : X → Type 0) (xs ys : List X) → Each P xs → Each P ys → Each P (xs ++ ys)
each_append P [] ys k l = l
each_append P (x ∷ xs) ys k l = (k.0, each_append P xs ys k.1 l)

-- what follows from P follows for each of a list
pub each_map : {X : Type 0} (P Q : X → Type 0) (xs : List X) → ((x : X) → P x → Q x) → Each P xs → Each Q xs
each_map P Q [] f k = tt
each_map P Q (x ∷ xs) f k = (f x k.0, each_map P Q xs f k.1)

-- nothing is asked of none
pub each_none : {X : Type 0} (P : X → Type 0) (xs : List X) → xs ≡ [] → Each P xs
each_none P xs e = subst (Each P) (sym e) tt

-- two facts of each
pub each_both : {X : Type 0} (P Q R : X → Type 0) (xs : List X) → ((x : X) → P x → Q x → R x) → Each P xs → Each Q xs → Each R xs
each_both P Q R [] f k l = tt
each_both P Q R (x ∷ xs) f k l = (f x k.0 l.0, each_both P Q R xs f k.1 l.1)

module _ {E : Type 0} (L : ℕ) where
  -- an ended call, answered as the plain queue answers it
  abbrev pub Answered : List (Placed E) → EndedCall E → Type 0
  Answered ps c = HasPlace ps c × (gives L c.serial ps ≡ Some (c.outcome, c.element))

  -- one call more has its place; calls that had theirs keep it
  answered_still : (p : Placed E) (ps : List (Placed E)) → places p.serial ps ≡ [] → (c : EndedCall E) → Answered ps c → Answered (p ∷ ps) c
  answered_still p ps none c k =
      let other = placed_other L p ps c.serial k.0.0 none k.0.1 in
      ((k.0.0, places_other L p ps c.serial other ∙ k.0.1, k.0.2, k.0.3), gives_other L p ps c.serial other ∙ k.1)

-- the calls that are placed after a moment: as before, or one more, which may be placed and has not been
pub data Places {E : Type 0} (st : Start) (now : ℕ) (v : View E) (s : State E) : List (Placed E) → Type 0 where
  no_more : Places st now v s v.ps
  one_more : (w : Running E) → places w.serial v.ps ≡ [] → 0 < weight st.bays v s w.serial → Places st now v s (place now w ∷ v.ps)

module _ {E : Type 0} {K : ℕ} {st : Start} {h : List (Moment E)} {s : State E} (i : Inv K st h s) where
  abbrev v : View E
  v = view_of st h s

  abbrev now : ℕ
  now = suc (length h)

  -- the law before the moment, as one statement of each ended call
  each_answered : Each (Answered st.length (placed st.base h)) (ended st.base h)
  each_answered = each_both _ _ _ (ended st.base h) (λ c k l. (k, l)) i.law.place i.law.agrees

  -- one place more, of a serial that had none, changes no answer
  still_answered : {ps : List (Placed E)} → Places st now v s ps → Each (Answered st.length ps) (ended st.base h)
  still_answered no_more = each_answered
  still_answered (one_more w none weighs) = each_map _ _ (ended st.base h) (answered_still st.length (place now w) (placed st.base h) none) each_answered

  -- the new place is later than all before
  still_apart : {ps : List (Placed E)} → Places st now v s ps → Apart ps
  still_apart no_more = i.law.apart
  still_apart (one_more w none weighs) = (each_map _ _ (placed st.base h) (λ p k. omega arith) i.past, i.law.apart)

  -- and no later than this moment
  still_past : {ps : List (Placed E)} → Places st now v s ps → Each (λ p. p.moment ≤ now) ps
  still_past no_more = each_map _ _ (placed st.base h) (λ p k. omega arith) i.past
  still_past (one_more w none weighs) = (omega arith, each_map _ _ (placed st.base h) (λ p k. omega arith) i.past)

  -- a call that was given up weighs nothing, so it is not the one that is placed
  still_untouched : {ps : List (Placed E)} → Places st now v s ps → Each (λ r. places r.serial ps ≡ []) (untouched st.base h)
  still_untouched no_more = i.law.untouched
  still_untouched (one_more w none weighs) =
      each_both _ _ _ (untouched st.base h)
      (λ r k l. places_other st.length (place now w) (placed st.base h) r.serial (λ e. let z = ap (weight st.bays v s) e in omega (arith, k.1)) ∙ l)
      i.given_up_lem
      i.law.untouched

  -- the invariant goes on, from what a moment shows of the state after it
  pub finish : (m : Moment E) (t : State E) (u : View E) → Inner K st u now t (running st.base (m ∷ h)) → view_of st (m ∷ h) t ≡ u → ((d : Side) → index t.memory (own d) ≡ index_in st.base (m ∷ h) d) → s.dock.started ≤ t.dock.started → ((x : ℕ) → x ≤ s.dock.started → weight st.bays u t x ≤ weight st.bays v s x) → Places st now v s u.ps → Each (Answered st.length u.ps) (ended_by (event m) now m.trays (running st.base h)) → Each (λ r. (r.serial ≤ t.dock.started) × (weight st.bays u t r.serial ≡ 0) × (places r.serial u.ps ≡ [])) (untouched_by (event m) (running st.base h)) → Each (λ r. r.read ≡ alterations st.base h Putting) (stored st.base m h Putting) → Each (λ r. r.read ≡ alterations st.base h Taking) (stored st.base m h Taking) → Inv K st (m ∷ h) t
  finish m t u inner view indices more lighter ps answered left puts takes =
      let E' = ended_by (event m) now m.trays (running st.base h) in
      let U' = untouched_by (event m) (running st.base h) in
      let same : u.ps ≡ placed st.base (m ∷ h) = ap (λ x. x.ps) (sym view) in
      let all = each_append (Answered st.length u.ps) E' (ended st.base h) answered (still_answered ps) in
      let given = each_append (λ r. (r.serial ≤ t.dock.started) × (weight st.bays u t r.serial ≡ 0)) U' (untouched st.base h)
      (each_map _ _ U' (λ r k. (k.0, k.1)) left)
      (each_map _ _ (untouched st.base h) (λ r k. (omega (arith, k.0), omega (arith, k.1, lighter r.serial k.0))) i.given_up_lem)
      in
      record {
        inner = subst (λ x. Inner K st x now t (running st.base (m ∷ h))) (sym view) inner;
        indices = indices;
        past = subst (λ l. Each (λ p. p.moment ≤ now) l) same (still_past ps);
        given_up_lem = subst (λ x. Each (λ r. (r.serial ≤ t.dock.started) × (weight st.bays x t r.serial ≡ 0)) (untouched st.base (m ∷ h))) (sym view) given;
        law = record {
          place = subst (λ l. Each (HasPlace l) (ended st.base (m ∷ h))) same (each_map _ _ (ended st.base (m ∷ h)) (λ c k. k.0) all);
          apart = subst Apart same (still_apart ps);
          untouched = subst (λ l. Each (λ r. places r.serial l ≡ []) (untouched st.base (m ∷ h))) same (each_append (λ r. places r.serial u.ps ≡ []) U' (untouched st.base h) (each_map _ _ U' (λ r k. k.2) left) (still_untouched ps));
          agrees = subst (λ l. Each (λ c. gives st.length c.serial l ≡ Some (c.outcome, c.element)) (ended st.base (m ∷ h))) same (each_map _ _ (ended st.base (m ∷ h)) (λ c k. k.1) all);
          unmoved = (puts, takes, i.law.unmoved);
        };
      }
