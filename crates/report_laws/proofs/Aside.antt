-- What happens aside from the front: it leaves the front where it is, and says nothing of it.
use Rattle.std.proofs.Common.{◌≡◌, ℕ, ◌||◌, Bool, false, List, [], ◌∷◌, refl, ap, ◌∙◌}
use Rattle.std.specs.Prelude.{Option, Some, None}
use Rattle.std.specs.List.{AllByRecursion, list_any}
use Rattle.schedule_text.specs.declared.line.Line.{Line}
use Rattle.schedule_text.specs.declared.line.Line.TheVariants as lines
use Rattle.hypervisor.specs.Act.{FrontAct, BackAct, Took}
use Rattle.blk_front.specs.declared.told.Told.{Told}
use Rattle.blk_front.specs.declared.told.Told.TheVariants as told
use Rattle.blk_front.specs.View.{View}
use Rattle.blk_front.specs.Step.{step_of}
use Rattle.blk_back.specs.Ask.{is_led}
use Rattle.report_rules.specs.Standing.{is_epoch}
use Rattle.split_model.specs.World.{World}
use Rattle.split_model.specs.Shown.{front_lines}
use Rattle.split_model.specs.Happening.{Happening, FrontMoves, BackMoves, JobMoves, FrontEnters, Submits, Suspends, front_shows, back_turn}
use Rattle.split_model.specs.Kept.{KeepingHappening, Plainly, BackOffers, BackKeeps, offered, kept_so, reads_keeping, back_after_keeping, job_turn_keeping, job_after_keeping, plainly_after, happens_keeping, shows_keeping}
use Rattle.split_model.proofs.Showing.{MayShow}
use Rattle.report_laws.specs.Ready.{says_ready, says_over}
use Rattle.report_laws.specs.QuietRing.{says_answer}
use Rattle.move_laws.proofs.KeptLines.{either_world}
use Rattle.report_laws.proofs.KeptReports.{as_plain, keeping_are}
use Rattle.report_laws.proofs.Epochs.{AreWithin}
use Rattle.report_laws.proofs.Submitted.{submit_cases}

-- a line that neither says what becomes of the front nor tells an answer, and begins no epoch
pub record IsAsideLine (line : Line) : Type 0 where
  pub unready : says_ready line ≡ false
  pub going : says_over line ≡ false
  pub unanswered : says_answer line ≡ false
  pub within : is_epoch line ≡ false

abbrev pub AreAside : List Line → Type 0
AreAside ls = AllByRecursion IsAsideLine ls

none_says : (says : Line → Bool) → ((line : Line) → IsAsideLine line → says line ≡ false) → (ls : List Line) → AreAside ls → list_any says ls ≡ false
none_says says none [] all = refl
none_says says none (line ∷ ls) all = ap (λ (b : Bool). b || list_any says ls) (none line all.0) ∙ none_says says none ls all.1

pub aside_unready : (ls : List Line) → AreAside ls → list_any says_ready ls ≡ false
aside_unready ls all = none_says says_ready (λ line is. is.unready) ls all

pub aside_silent : (ls : List Line) → AreAside ls → list_any says_over ls ≡ false
aside_silent ls all = none_says says_over (λ line is. is.going) ls all

pub aside_unanswered : (ls : List Line) → AreAside ls → AllByRecursion (λ (line : Line). says_answer line ≡ false) ls
aside_unanswered [] all = tt
aside_unanswered (line ∷ ls) all = (all.0.unanswered, aside_unanswered ls all.1)

pub aside_within : (ls : List Line) → AreAside ls → AreWithin ls
aside_within [] all = tt
aside_within (line ∷ ls) all = (all.0.within, aside_within ls all.1)

-- the front is where it was
pub record IsUnmoved (v x : View) : Type 0 where
  pub stage : x.stage ≡ v.stage
  pub start : x.start ≡ v.start
  pub cons : x.ring.indices.cons ≡ v.ring.indices.cons

unmoved : (v : View) → IsUnmoved v v
unmoved v = record { stage = refl; start = refl; cons = refl }

-- neither a move of the front, nor a state that it enters, nor a suspend
abbrev pub IsAside : Happening → Type 0
IsAside FrontMoves = ⊥
IsAside (FrontEnters state) = ⊥
IsAside Suspends = ⊥
IsAside h = Unit {0}

pub record LeavesFront (w w' : World) (ls : List Line) : Type 0 where
  pub front : IsUnmoved w.front w'.front
  pub lines : AreAside ls

-- none of its lines speaks of the front
one_aside : (h : Happening) (line : Line) → IsAside h → MayShow h line → IsAsideLine line
one_aside FrontMoves line aside shows = absurd aside
one_aside h lines.Ready aside shows = absurd (assumption)
one_aside h lines.Closed aside shows = absurd (assumption)
one_aside h (lines.Broken word) aside shows = absurd (assumption)
one_aside h (lines.Answer id status) aside shows = absurd (assumption)
one_aside h lines.Epoch aside shows = absurd (assumption)
one_aside h line aside shows = record { unready = refl; going = refl; unanswered = refl; within = refl }

back_unmoved : (w : World) (act : Option BackAct) → (let x : World = back_after_keeping w act in IsUnmoved w.front x.front)
back_unmoved w None = unmoved w.front
back_unmoved w (Some a) = unmoved w.front

job_unmoved : (w : World) (number : ℕ) (act : Option BackAct) → (let x : World = job_after_keeping w number act in IsUnmoved w.front x.front)
job_unmoved w number None = unmoved w.front
job_unmoved w number (Some a) = unmoved w.front

front_unmoved : (w : World) (h : Happening) → IsAside h → (let x : World = plainly_after w h in IsUnmoved w.front x.front)
front_unmoved w FrontMoves aside = absurd aside
front_unmoved w (FrontEnters state) aside = absurd aside
front_unmoved w Suspends aside = absurd aside
front_unmoved w BackMoves aside = back_unmoved w (back_turn w Took)
front_unmoved w (JobMoves number outcome) aside = job_unmoved w number (job_turn_keeping w number outcome)
front_unmoved w (Submits job) aside = submit_cases (IsUnmoved w.front) w.front (unmoved w.front) (λ wish taken. record { stage = refl; start = refl; cons = refl }) job
front_unmoved w h aside = unmoved w.front

keeping_unmoved : (w : World) (h : KeepingHappening) → IsAside (as_plain h) → (let x : World = happens_keeping w h in IsUnmoved w.front x.front)
keeping_unmoved w (Plainly h) aside = front_unmoved w h aside
keeping_unmoved w BackOffers aside = either_world (λ (x : World). IsUnmoved w.front x.front) (is_led w.back.stage) (offered w) w (λ led. unmoved w.front) (unmoved w.front)
keeping_unmoved w (BackKeeps cap) aside = either_world (λ (x : World). IsUnmoved w.front x.front) (reads_keeping w cap) (kept_so w cap) w (λ reads. unmoved w.front) (unmoved w.front)

pub leaves_front : (w : World) (h : KeepingHappening) → IsAside (as_plain h) → LeavesFront w (happens_keeping w h) (shows_keeping w h)
leaves_front w h aside = record { front = keeping_unmoved w h aside; lines = keeping_are IsAsideLine w h (λ line shows. one_aside (as_plain h) line aside shows) }

-- a move of the front doesn't say that it is connected
front_unready : (t : Option Told) → list_any says_ready (front_lines t) ≡ false
front_unready None = refl
front_unready (Some (told.Answer id status)) = refl
front_unready (Some (told.Sector id index words)) = refl
front_unready (Some (told.Broken word)) = refl

pub shows_unready : (w : World) (act : Option FrontAct) → list_any says_ready (front_shows w act) ≡ false
shows_unready w None = refl
shows_unready w (Some a) = front_unready (let x : View = step_of w.front a.answer in x.told)
