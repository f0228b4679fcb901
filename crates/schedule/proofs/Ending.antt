-- A call that is collected or given up. Assumes nothing.
use Rattle.std.proofs.Common.{◌≡◌, ℕ, cond, get_or, Ok, sym, refl, ap, ◌∙◌}
use Rattle.dock_rules.specs.declared.Refusal.{Refusal}
use Rattle.dock_rules.specs.Calls.{Call, Answer, Refused}
use Rattle.dock.specs.declared.Collected.{Collected}
use Rattle.dock.specs.declared.Collected.TheVariants as collected
use Rattle.dock.specs.declared.Left.{Left}
use Rattle.dock.specs.declared.Left.TheVariants as left
use Rattle.dock.specs.Answered.{collect_answer, abandon_answer, CollectedFor, LeftFor}
use Rattle.schedule.specs.declared.Response.{Response}
use Rattle.schedule.specs.declared.Response.TheVariants as say
use Rattle.schedule.specs.declared.session.Session.{Session}
use Rattle.schedule.specs.declared.session.ended.Ended.{Ended}
use Rattle.schedule.specs.declared.session.ended.Ended.TheVariants.{Answered}
use Rattle.schedule.specs.Responses.{response_to, is_taken}
use Rattle.schedule.specs.Desks.{Desk, make, last_of, settled, finishes}
use Rattle.schedule.specs.Ended.{ended_by_collect, ended_by_leave, ended_response, ended_desk}
use Rattle.schedule.specs.Sessions.{game_of, Stands, Made, Moved, Turned}
use Rattle.schedule.proofs.Moving.{answers, moves, then, alike, responds}

-- what is left to do after a call of this bay and serial that answered so
pub record Ending (b n : ℕ) (a : Answer) (x : Ended) : Type 0 where
  pub response : (e : ℕ) → ended_response x e ≡ response_to a e
  pub desk : (d : Desk) → ended_desk x d ≡ cond (is_taken a) (settled d b n) d

pub refused_ends : (b n : ℕ) (q : Refusal) → Ending b n (Refused q) (Answered (say.Refused q))
refused_ends b n q = record { response = λ e. refl; desk = λ d. refl }

pub collected_ends : (b n : ℕ) (k : Collected) → CollectedFor b n (Ok k) → Ending b n (collect_answer (Ok k)) (ended_by_collect k)
collected_ends b n collected.Full told = record { response = λ e. refl; desk = λ d. refl }
collected_ends b n collected.Stored told = record { response = λ e. refl; desk = λ d. refl }
collected_ends b n collected.Empty told = record { response = λ e. refl; desk = λ d. refl }
collected_ends b n (collected.Taken x) told = record { response = λ e. refl; desk = λ d. ap (λ y. settled d y.bay y.serial) told }

pub left_ends : (b n : ℕ) (l : Left) → LeftFor b n (Ok l) → Ending b n (abandon_answer (Ok l)) (ended_by_leave l)
left_ends b n left.Untouched told = record { response = λ e. refl; desk = λ d. refl }
left_ends b n left.Stored told = record { response = λ e. refl; desk = λ d. refl }
left_ends b n (left.Taken x) told = record { response = λ e. refl; desk = λ d. ap (λ y. settled d y.bay y.serial) told }

-- a collect or an abandon, with the serial of the bay's last call, and what is left to do after it
pub turns_ended : {s m t : Session} (call : ℕ → Call ℕ) {a : Answer} (b n : ℕ) {x : Ended} {r : Response} → n ≡ get_or s.last b 0 → Made s (call n) a m → Ending b n a x → r ≡ ended_response x (get_or (game_of m).world.trays b 0) → Moved (ended_desk x) m t → Turned (λ d. finishes b (last_of d b) (make d (call (last_of d b)))) s r t
turns_ended {s} {m} {t} call {a} b n {x} {r} last made ending says moved =
    record {
      response = λ d stands. responds made b (says ∙ ending.response _) d stands ∙ ap (λ k. (finishes b k (make d (call k))).0) (known d stands);
      moved = alike same (then (moves made) moved);
    }
  where
    known : (d : Desk) → Stands d s → n ≡ last_of d b
    known d stands = last ∙ sym (ap (λ l. get_or l b 0) stands.last)

    same : (d : Desk) → Stands d s → ended_desk x (make d (call n)).1 ≡ (finishes b (last_of d b) (make d (call (last_of d b)))).1
    same d stands =
        ending.desk (make d (call n)).1
        ∙ ap (λ a. cond (is_taken a) (settled (make d (call n)).1 b n) (make d (call n)).1) (answers made d stands)
        ∙ ap (λ k. (finishes b k (make d (call k))).1) (known d stands)
