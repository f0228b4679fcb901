-- Lines, read and printed one after the other. Assumes nothing.
use Rattle.std.proofs.Common.{◌≡◌, ℕ, ◌+◌, ◌≤◌, Bool, true, false, cond, eqb, List, [], ◌∷◌, ◌++◌, length, Some, Option, sym, refl, ap, ◌∙◌, subst, append_assoc, string_bytes, arith}
use Rattle.commands.specs.Text.{lines_of, glued, line_feed}
use Rattle.commands.specs.Commands.{Read, command_of, lines_left, next_command}
use Rattle.schedule.specs.declared.Response.{Response}
use Rattle.schedule.specs.Desks.{Desk, heeded}
use Rattle.schedule.specs.Output.{Stage, At, Driven, DrivenAt, after, responds, line_text, printed}
use Rattle.schedule.specs.Sessions.{Stands, Turned, Through, Passes}
use Rattle.schedule.specs.declared.session.Session.{Session}
use Rattle.commands.specs.declared.Schedule.{Schedule}
use Rattle.schedule.specs.declared.transcript.Transcript.{Transcript}

-- which line was read

pub line_read : (ls rest : List (List ℕ)) (r : Read) → ◌≡◌ {A = Option Read × List (List ℕ)} (Some r, rest) (next_command ls) → (l : List ℕ) × (ls ≡ l ∷ rest) × (r ≡ command_of l)
line_read [] rest r e = let z : ◌≡◌ {A = ℕ} 0 1 = cc (ap (λ (p : Option Read × List (List ℕ)). p.0) e) in absurd (omega arith)
line_read (l ∷ ls) rest r e =
    let read = ap (λ (p : Option Read × List (List ℕ)). p.0) e in
    (l, ap (λ x. l ∷ x) (sym (ap (λ (p : Option Read × List (List ℕ)). p.1) e)), cc)

module _ {o : List ℕ} {i : ℕ} {s : Stage} {ls : List (List ℕ)} where
  pub nothing_read : Through o i s ls o i s ls
  nothing_read = record { output = refl; law = λ k. k; fewer = omega arith }

  -- one line more
  pub one_line : {p q : List ℕ} {j m : ℕ} {t : Stage} {l : List ℕ} {rest : List (List ℕ)} → Through o i s ls p j t (l ∷ rest) → DrivenAt t → (r : Response) → r ≡ (after t l).0 → q ≡ p ++ line_text j r → m ≡ j + 1 → Through o i s ls q m (after t l).1 rest
  one_line {p} {q} {j} {m} {t} {l} {rest} so run r says out number =
      record {
        output =
            (λ x. (out ∙ ap (λ r. p ++ line_text j r) says) x ++ printed (number x) (after t l).1 rest)
            ∙ append_assoc p (line_text j (after t l).0) (printed (j + 1) (after t l).1 rest)
            ∙ so.output;
        law = λ k. so.law (run, k);
        fewer = let n = so.fewer in omega arith;
      }

-- a line was read
pub record WasRead (x : Transcript) (r : Read) (y : Transcript) : Type 0 where
  pub line : List ℕ
  pub lines : lines_left x.schedule ≡ line ∷ lines_left y.schedule
  pub is : r ≡ command_of line
  pub out : y.out ≡ x.out
  pub number : y.number ≡ x.number + 1

pub was_read : (x : Transcript) (r : Read) (y : Transcript) → ◌≡◌ {A = Option Read × List (List ℕ)} (Some r, lines_left y.schedule) (next_command (lines_left x.schedule)) → y.out ≡ x.out → y.number ≡ x.number + 1 → WasRead x r y
was_read x r y e out number =
    let read = line_read (lines_left x.schedule) (lines_left y.schedule) r e in
    record { line = read.0; lines = read.1; is = read.2; out = out; number = number }

-- the response to the line that was read last was printed
pub record Printed (x : Transcript) (r : Response) (y : Transcript) : Type 0 where
  pub lines : y.schedule ≡ x.schedule
  pub out : string_bytes y.out ≡ string_bytes x.out ++ line_text x.number r
  pub number : y.number ≡ x.number

-- what comes after a line was printed comes after what it was to be
pub once_printed : {x : Transcript} {r : Response} {y : Transcript} → Printed x r y → (t : Stage) {p : List ℕ} {j : ℕ} {u : Stage} {ms : List (List ℕ)} → Through (string_bytes y.out) (y.number + 1) t (lines_left y.schedule) p j u ms → Through (string_bytes x.out ++ line_text x.number r) (x.number + 1) t (lines_left x.schedule) p j u ms
once_printed {x} {r} {y} so t {p} {j} {u} {ms} through =
    subst (λ o. Through o (x.number + 1) t (lines_left x.schedule) p j u ms) so.out
    (subst (λ (s : Schedule). Through (string_bytes y.out) (x.number + 1) t (lines_left s) p j u ms) so.lines (subst (λ n. Through (string_bytes y.out) (n + 1) t (lines_left y.schedule) p j u ms) so.number through))

-- a line was read, at a stage at which it leads to this response and stage
pub one_read : {x : Transcript} {r : Read} {y : Transcript} {o : List ℕ} {i : ℕ} {s : Stage} {ls : List (List ℕ)} (t : Stage) → WasRead x r y → DrivenAt t → Through o i s ls (string_bytes x.out) (x.number + 1) t (lines_left x.schedule) → Through o i s ls (string_bytes y.out ++ line_text y.number (responds t r).0) (y.number + 1) (responds t r).1 (lines_left y.schedule)
one_read {x} {r} {y} {o} {i} {s} {ls} t read run so =
    let a = responds t r in
    let more = one_line (subst (λ ms. Through o i s ls (string_bytes x.out) (x.number + 1) t ms) read.lines so) run a.0 (ap (λ r. (responds t r).0) read.is) (λ k. string_bytes (read.out k) ++ line_text (read.number k) a.0) (ap (λ n. n + 1) read.number) in
    subst (λ (c : Read). Through o i s ls (string_bytes y.out ++ line_text y.number a.0) (y.number + 1) (responds t c).1 (lines_left y.schedule)) (sym read.is) more

-- and its response was printed
pub then_printed : {y : Transcript} {r : Response} {z : Transcript} {o : List ℕ} {i : ℕ} {s : Stage} {ls : List (List ℕ)} (t : Stage) → Printed y r z → Through o i s ls (string_bytes y.out ++ line_text y.number r) (y.number + 1) t (lines_left y.schedule) → Through o i s ls (string_bytes z.out) (z.number + 1) t (lines_left z.schedule)
then_printed {y} {r} {z} {o} {i} {s} {ls} t so through =
    subst (λ p. Through o i s ls p (z.number + 1) t (lines_left z.schedule)) (sym so.out)
    (subst (λ (c : Schedule). Through o i s ls (string_bytes y.out ++ line_text y.number r) (z.number + 1) t (lines_left c)) (sym so.lines) (subst (λ n. Through o i s ls (string_bytes y.out ++ line_text y.number r) (n + 1) t (lines_left y.schedule)) (sym so.number) through))

-- where a session and a transcript stand once some lines were answered
pub record Reaches (d : Desk) (x : Transcript) (t : Session) (y : Transcript) : Type 0 where
  pub desk : Desk
  pub stands : Stands desk t
  pub driven : Driven desk
  pub through : Passes (At d) x (At desk) y

abbrev pub Going : Session → Transcript → Session → Transcript → Type 0
Going s x t y = (d : Desk) → Stands d s → Driven d → Reaches d x t y

-- one line more
pub goes_on : (s : Session) (x : Transcript) {t u : Session} {y z w : Transcript} {read : Read} {r : Response} → Going s x t y → WasRead y read z → Turned (λ d. heeded d read) t r u → Printed z r w → Going s x u w
goes_on s x {t} {u} {y} {z} {w} {read} {r} going line turned printed d stands driven =
    let here = going d stands driven in
    let more = one_read (At here.desk) line here.driven here.through in
    let after = (heeded here.desk read).1 in
    record {
      desk = after;
      stands = turned.moved.stands here.desk here.stands;
      driven = turned.moved.driven here.desk here.stands here.driven;
      through =
          then_printed (At after) printed
          (subst (λ r. Through (string_bytes x.out) (x.number + 1) (At d) (lines_left x.schedule) (string_bytes z.out ++ line_text z.number r) (z.number + 1) (At after) (lines_left z.schedule)) (sym (turned.response here.desk here.stands)) more);
    }

-- a text has no more lines than bytes

glued_few : (b : ℕ) (ps : List (List ℕ)) → length (glued b ps) ≤ length ps + 1
glued_few b [] = omega arith
glued_few b (p ∷ ps) = omega arith

pub lines_few : (t : List ℕ) → length (lines_of t) ≤ length t
lines_few [] = omega arith
lines_few (b ∷ bs) = go (eqb b line_feed) (lines_few bs)
  where
    go : (e : Bool) → length (lines_of bs) ≤ length bs → length (cond e ([] ∷ lines_of bs) (glued b (lines_of bs))) ≤ length (b ∷ bs)
    go true h = omega arith
    go false h = omega (arith, glued_few b (lines_of bs))
