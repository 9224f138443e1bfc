-- When a desk has caught up with the others, and until when it takes up what it built before.
use Rattle.std.specs.Prelude.{◌≡◌, ◌==◌, ◌&&◌, ◌||◌, ℕ, Bool, true, false, not, None, Option, is_some, length}
use Rattle.std.specs.declared.time.Instant.{Instant}
use Rattle.protocol.specs.State.{State, is_held_any}
use Rattle.scheduler.specs.Waiting.{is_over}
use Rattle.scheduler.specs.Wishing.{IsLeastOf, IsNextAsked}
use Rattle.scheduler.specs.declared.desk.Desk.{Desk}
use Rattle.scheduler.specs.declared.sought.Sought.TheVariants.{Mine}

-- Whether it has caught up, if this is the first package to ask for. It has if there is nobody to
-- ask. Else a slot's time has to pass after the last question, or after the start; and the unit of
-- that question isn't held, or there is nothing to ask for.
abbrev pub has_caught_up : State → Desk → Instant → Option ℕ → Bool
has_caught_up s d now next =
    (length s.weights == 1)
    || (is_over d.pace.slot d.asked_at now && (not (is_held_any s d.last) || not (is_some next)))

-- It still catches up: it did before, and hasn't caught up now.
abbrev pub StillCatchesUp : State → Desk → Instant → Bool → Type 0
StillCatchesUp s d now still =
    (d.is_catching_up ≡ false → still ≡ false)
    × (d.is_catching_up ≡ true
    → (next : Option ℕ) × IsNextAsked s d 0 next × (still ≡ not (has_caught_up s d now next)))

-- Units may still be left that were the member's before its start, if there were any. While the
-- desk catches up, some may be. After that, some are as long as a package is queued whose unit is
-- the member's own and may be claimed some time.
abbrev pub StillResumes : State → Desk → Bool → Type 0
StillResumes s d still =
    (d.resumes ≡ false → still ≡ false)
    × (d.resumes ≡ true → d.is_catching_up ≡ true → still ≡ true)
    × (d.resumes ≡ true → d.is_catching_up ≡ false
    → (least : Option ℕ) × IsLeastOf d s None Mine least × (still ≡ is_some least))
