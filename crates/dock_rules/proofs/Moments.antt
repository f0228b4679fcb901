-- The words of a history after one moment more. Assumes nothing.
use Rattle.std.proofs.Common.{◌≡◌, ℕ, suc, ◌+◌, Bool, true, false, cond, not, List, [], ◌∷◌, ◌++◌, map, length, Option, ap, ◌∙◌, arith}
use Rattle.std.proofs.lemmas.Bool.{eq-eqb, ne_eqb}
use Rattle.dock_rules.specs.Words.{Side, Putting, Taking}
use Rattle.dock_rules.specs.History.{Moment, Running, Event, event, place, stored_by, turned_by, index_in, altered, alterations, running, stored, waiting, placed}
use Rattle.dock_rules.specs.Runs.{Start, State}
use Rattle.dock_rules.proofs.Changes.{moving, storing, turning}
use Rattle.dock_rules.proofs.Invariant.{view_of}

module _ {E : Type 0} (st : Start) (m : Moment E) (h : List (Moment E)) where
  -- what a moment alters, stores and turns away
  pub record Happens (p t : Bool) (ps ts ws : List (Running E)) : Type 0 where
    pub tail : altered st.base m h Putting ≡ p
    pub head : altered st.base m h Taking ≡ t
    pub puts : stored st.base m h Putting ≡ ps
    pub takes : stored st.base m h Taking ≡ ts
    pub turned : turned_by (event m) (running st.base h) ≡ ws

  -- an index that stays is not altered
  pub same_index_lem : (d : Side) → index_in st.base (m ∷ h) d ≡ index_in st.base h d → altered st.base m h d ≡ false
  same_index_lem d e = ap not (eq-eqb _ _ e)

  -- and one that differs is
  pub other_index : (d : Side) → (index_in st.base (m ∷ h) d ≡ index_in st.base h d → ⊥) → altered st.base m h d ≡ true
  other_index d n = ap not (ne_eqb _ _ n)

  -- a moment that leaves both indices
  pub unaltered : {ps ts ws : List (Running E)} → index_in st.base (m ∷ h) Putting ≡ index_in st.base h Putting → index_in st.base (m ∷ h) Taking ≡ index_in st.base h Taking → stored st.base m h Putting ≡ ps → stored st.base m h Taking ≡ ts → turned_by (event m) (running st.base h) ≡ ws → Happens false false ps ts ws
  unaltered tail head puts takes turned =
      record { tail = same_index_lem Putting tail; head = same_index_lem Taking head; puts = puts; takes = takes; turned = turned }

  -- a moment that leaves both indices, of an event that tells of no store and of no call turned away
  pub silent : {x : Event E} → event m ≡ x → index_in st.base (m ∷ h) Putting ≡ index_in st.base h Putting → index_in st.base (m ∷ h) Taking ≡ index_in st.base h Taking → ((d : Side) → stored_by d x (running st.base h) ≡ []) → turned_by x (running st.base h) ≡ [] → Happens false false [] [] []
  silent e tail head none turned =
      unaltered tail head
      (ap (λ y. stored_by Putting y (running st.base h)) e ∙ none Putting)
      (ap (λ y. stored_by Taking y (running st.base h)) e ∙ none Taking)
      (ap (λ y. turned_by y (running st.base h)) e ∙ turned)

  -- a count, the calls left to wait and the calls placed, by whether the index was altered
  abbrev after : Bool → ℕ → ℕ
  after b n = cond b (suc n) n

  abbrev still : Bool → List (Running E) → List (Running E)
  still b rs = cond b [] rs

  abbrev gone : Bool → List (Running E) → List (Running E)
  gone b rs = cond b rs []

  -- the view after a moment, from what happens in it
  view_after : {p t : Bool} {ps ts ws : List (Running E)} (s : State E) → Happens p t ps ts ws → view_of st (m ∷ h) s ≡ record {
    T = st.base + after p (alterations st.base h Putting);
    H = st.base + after t (alterations st.base h Taking);
    slots = s.memory.slots;
    puts = ps ++ still p (waiting st.base h Putting);
    takes = ts ++ still t (waiting st.base h Taking);
    ps = map (place (suc (length h))) (gone p (waiting st.base h Putting) ++ (gone t (waiting st.base h Taking) ++ ws)) ++ placed st.base h;
  }
  view_after s x = λ i. record {
    T = st.base + after (x.tail i) (alterations st.base h Putting);
    H = st.base + after (x.head i) (alterations st.base h Taking);
    slots = s.memory.slots;
    puts = x.puts i ++ still (x.tail i) (waiting st.base h Putting);
    takes = x.takes i ++ still (x.head i) (waiting st.base h Taking);
    ps = map (place (suc (length h))) (gone (x.tail i) (waiting st.base h Putting) ++ (gone (x.head i) (waiting st.base h Taking) ++ x.turned i)) ++ placed st.base h;
  }

  -- nothing that the bays share changes
  pub calm_view : (s u : State E) → u.memory.slots ≡ s.memory.slots → Happens false false [] [] [] → view_of st (m ∷ h) u ≡ view_of st h s
  calm_view s u same x = view_after u x ∙ ap (λ l. record { T = (view_of st h s).T; H = (view_of st h s).H; slots = l; puts = (view_of st h s).puts; takes = (view_of st h s).takes; ps = (view_of st h s).ps }) same

  -- a call is turned away
  pub turned_view : (s u : State E) (w : Running E) → u.memory.slots ≡ s.memory.slots → Happens false false [] [] (w ∷ []) → view_of st (m ∷ h) u ≡ turning st.length st.base (suc (length h)) (view_of st h s) w
  turned_view s u w same x = view_after u x ∙ ap (λ l. record { T = (view_of st h s).T; H = (view_of st h s).H; slots = l; puts = (view_of st h s).puts; takes = (view_of st h s).takes; ps = place (suc (length h)) w ∷ (view_of st h s).ps }) same

  -- Tail is altered and nothing else
  pub tail_view : (s u : State E) (w : Running E) → u.memory.slots ≡ s.memory.slots → waiting st.base h Putting ≡ w ∷ [] → Happens true false [] [] [] → view_of st (m ∷ h) u ≡ moving st.length st.base (suc (length h)) Putting (view_of st h s) w
  tail_view s u w same one x = view_after u x ∙ λ i. record {
    T = up i;
    H = (view_of st h s).H;
    slots = same i;
    puts = [];
    takes = (view_of st h s).takes;
    ps = map (place (suc (length h))) (one i ++ []) ++ (view_of st h s).ps;
  }
    where
      up : st.base + suc (alterations st.base h Putting) ≡ st.base + alterations st.base h Putting + 1
      up = omega arith

  -- Head is altered and nothing else
  pub head_view : (s u : State E) (w : Running E) → u.memory.slots ≡ s.memory.slots → waiting st.base h Taking ≡ w ∷ [] → Happens false true [] [] [] → view_of st (m ∷ h) u ≡ moving st.length st.base (suc (length h)) Taking (view_of st h s) w
  head_view s u w same one x = view_after u x ∙ λ i. record {
    T = (view_of st h s).T;
    H = up i;
    slots = same i;
    puts = (view_of st h s).puts;
    takes = [];
    ps = map (place (suc (length h))) (one i ++ []) ++ (view_of st h s).ps;
  }
    where
      up : st.base + suc (alterations st.base h Taking) ≡ st.base + alterations st.base h Taking + 1
      up = omega arith

  -- a put's slot store is accepted and nothing else
  pub put_view : (s u : State E) (w : Running E) (x : Option E) → u.memory.slots ≡ (storing st.length st.base (suc (length h)) Putting (view_of st h s) w x).slots → waiting st.base h Putting ≡ [] → Happens false false (w ∷ []) [] [] → view_of st (m ∷ h) u ≡ storing st.length st.base (suc (length h)) Putting (view_of st h s) w x
  put_view s u w x same none y = view_after u y ∙ λ i. record {
    T = (view_of st h s).T;
    H = (view_of st h s).H;
    slots = same i;
    puts = w ∷ none i;
    takes = (view_of st h s).takes;
    ps = (view_of st h s).ps;
  }

  -- a take's slot store is accepted and nothing else
  pub take_view : (s u : State E) (w : Running E) (x : Option E) → u.memory.slots ≡ (storing st.length st.base (suc (length h)) Taking (view_of st h s) w x).slots → waiting st.base h Taking ≡ [] → Happens false false [] (w ∷ []) [] → view_of st (m ∷ h) u ≡ storing st.length st.base (suc (length h)) Taking (view_of st h s) w x
  take_view s u w x same none y = view_after u y ∙ λ i. record {
    T = (view_of st h s).T;
    H = (view_of st h s).H;
    slots = same i;
    puts = (view_of st h s).puts;
    takes = w ∷ none i;
    ps = (view_of st h s).ps;
  }
