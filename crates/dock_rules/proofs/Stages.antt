-- The numbered lines by side and stage: what a put's and a take's line of one number have in common.
-- Assumes nothing.
use Rattle.std.proofs.Common.{◌≡◌, ℕ, ◌+◌, ◌%◌, Bool, cond, not, eqb, ltb, is_some, None, Option, arith}
use Rattle.slot_memory.specs.declared.Cell.TheVariants.{Slot, At}
use Rattle.slot_memory.specs.Rules.{InSlot, InIndex, Operation, Read, Mark, Store, Reply}
use Rattle.dock_rules.specs.declared.Line.{Line}
use Rattle.dock_rules.specs.declared.Line.TheVariants.{E5, E6, E9, E10, E12, E13, E15, E16, E17, D5, D6, D9, D10, D12, D13, D15, D16, D17}
use Rattle.dock_rules.specs.declared.Outcome.{Outcome}
use Rattle.dock_rules.specs.declared.Outcome.TheVariants.{Full, Stored, Empty, Taken}
use Rattle.dock_rules.specs.Words.{Side, Putting, Taking, side, number}
use Rattle.dock_rules.specs.Lines.{Next, To, Ends, wrap, number_in, content_in, accepts, operation, next}
use Rattle.dock_rules.proofs.Sound.{own}

-- the numbers of the lines
pub data Stage : Type 0 where
  S5 : Stage
  S6 : Stage
  S9 : Stage
  S10 : Stage
  S12 : Stage
  S13 : Stage
  S15 : Stage
  S16 : Stage
  S17 : Stage

-- the number behind the letter
abbrev pub number_at : Stage → ℕ
number_at S5 = 5
number_at S6 = 6
number_at S9 = 9
number_at S10 = 10
number_at S12 = 12
number_at S13 = 13
number_at S15 = 15
number_at S16 = 16
number_at S17 = 17

-- 1 at a line before the slot store has been accepted, 0 past it
abbrev pub early_at : Stage → ℕ
early_at g = cond (ltb (number_at g) 16) 1 0

-- the line of a side at a stage
abbrev pub line_at : Side → Stage → Line
line_at Putting S5 = E5
line_at Putting S6 = E6
line_at Putting S9 = E9
line_at Putting S10 = E10
line_at Putting S12 = E12
line_at Putting S13 = E13
line_at Putting S15 = E15
line_at Putting S16 = E16
line_at Putting S17 = E17
line_at Taking S5 = D5
line_at Taking S6 = D6
line_at Taking S9 = D9
line_at Taking S10 = D10
line_at Taking S12 = D12
line_at Taking S13 = D13
line_at Taking S15 = D15
line_at Taking S16 = D16
line_at Taking S17 = D17

-- the stage of a line
abbrev pub stage : Line → Stage
stage E5 = S5
stage E6 = S6
stage E9 = S9
stage E10 = S10
stage E12 = S12
stage E13 = S13
stage E15 = S15
stage E16 = S16
stage E17 = S17
stage D5 = S5
stage D6 = S6
stage D9 = S9
stage D10 = S10
stage D12 = S12
stage D13 = S13
stage D15 = S15
stage D16 = S16
stage D17 = S17

-- the line of a side and a stage has that side and that stage
pub side_at : (d : Side) (g : Stage) → side (line_at d g) ≡ d
side_at d g = grind arith

pub stage_at : (d : Side) (g : Stage) → stage (line_at d g) ≡ g
stage_at d g = grind arith

-- a line's number is its stage's
pub number_is : (l : Line) → number l ≡ number_at (stage l)
number_is l = grind arith

-- what the sides differ in

abbrev pub other : Side → Side
other Putting = Taking
other Taking = Putting

-- the end at line 6
abbrev pub turned_away : Side → Outcome
turned_away Putting = Full
turned_away Taking = Empty

-- the end at line 16 or 17
abbrev pub carried_out : Side → Outcome
carried_out Putting = Stored
carried_out Taking = Taken

-- whether line 6 ends the call, by the other side's index
abbrev pub turns : Side → ℕ → ℕ → ℕ → Bool
turns Putting L i n = eqb (wrap (n + L)) i
turns Taking L i n = eqb n i

-- whether the slot is as another call of this side leaves it, so that line 10 goes on to line 12
abbrev pub outrun : Side → Bool → Bool
outrun Putting held = held
outrun Taking held = not held

module _ {E : Type 0} where
  -- what the slot store leaves in the slot
  abbrev pub left_in : Side → Option E → Option E
  left_in Putting e = e
  left_in Taking e = None

  -- the one operation of a stage
  abbrev pub operation_at : Side → Stage → ℕ → ℕ → ℕ → Option E → Operation E
  operation_at d S5 b L i e = Read (own d)
  operation_at d S6 b L i e = Read (own (other d))
  operation_at d S9 b L i e = Mark b (Slot (i % L))
  operation_at d S10 b L i e = Read (own d)
  operation_at d S12 b L i e = Mark b (At (own d))
  operation_at d S13 b L i e = Store b (InIndex (own d) (wrap (i + 1)))
  operation_at d S15 b L i e = Store b (InSlot (i % L) (left_in d e))
  operation_at d S16 b L i e = Mark b (At (own d))
  operation_at d S17 b L i e = Store b (InIndex (own d) (wrap (i + 1)))

  -- where a call goes from a stage
  abbrev pub next_at : Side → Stage → ℕ → ℕ → Bool → Reply E → Next
  next_at d S5 L i held r = To (line_at d S6) (number_in r) held
  next_at d S6 L i held r = cond (turns d L i (number_in r)) (Ends (turned_away d)) (To (line_at d S9) i held)
  next_at d S9 L i held r = To (line_at d S10) i (is_some (content_in r))
  next_at d S10 L i held r = cond (eqb (number_in r) i) (cond (outrun d held) (To (line_at d S12) i held) (To (line_at d S15) i held)) (To (line_at d S5) i held)
  next_at d S12 L i held r = cond (eqb (number_in r) i) (To (line_at d S13) i held) (To (line_at d S5) i held)
  next_at d S13 L i held r = To (line_at d S5) i held
  next_at d S15 L i held r = cond (accepts r) (To (line_at d S16) i held) (To (line_at d S5) i held)
  next_at d S16 L i held r = cond (eqb (number_in r) i) (To (line_at d S17) i held) (Ends (carried_out d))
  next_at d S17 L i held r = cond (accepts r) (Ends (carried_out d)) (To (line_at d S16) i held)

  -- each line makes the operation of its side and stage
  pub operation-is : (l : Line) (b L i : ℕ) (e : Option E) → operation l b L i e ≡ operation_at (side l) (stage l) b L i e
  operation-is l b L i e = grind arith

  -- each line goes where its side and stage go
  pub next-is : (l : Line) (L i : ℕ) (held : Bool) (r : Reply E) → next l L i held r ≡ next_at (side l) (stage l) L i held r
  next-is l L i held r = grind arith
