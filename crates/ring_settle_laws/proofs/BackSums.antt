-- What a move of the back changes beside what is left to the back itself, and how all of it adds up.
use Rattle.std.proofs.Common.{◌≡◌, ℕ, ◌+◌, ◌*◌, ◌<◌, ◌≤◌, Bool, true, false, if◌then◌else◌, List, refl, subst, arith}
use Rattle.std.specs.Prelude.{Option, Some, None}
use Rattle.std.proofs.lemmas.Option.{none-some, same_Some}
use Rattle.blk_base.specs.Distance.{distance_of}
use Rattle.blk_base.specs.declared.ask.BackAnswer.{BackAnswer}
use Rattle.blk_base.specs.declared.ask.BackAnswer.TheVariants as answer
use Rattle.blk_base.specs.declared.moves.BackMover.TheVariants as back_mover
use Rattle.blk_base.specs.declared.moves.Mover.TheVariants as mover
use Rattle.blk_base.specs.declared.moves.Move.TheVariants as moves
use Rattle.blk_base.specs.declared.parts.End.TheVariants as end
use Rattle.event_channel.specs.Channels.{ChannelState, taken}
use Rattle.hypervisor.specs.Hypervisor.{Hypervisor}
use Rattle.hypervisor.specs.Act.{BackAct, wait_act, back_watched, watch_next, watch_taken}
use Rattle.blk_front.specs.View as front
use Rattle.blk_back.specs.declared.stage.BackStage.{BackStage}
use Rattle.blk_back.specs.View as back
use Rattle.back_laws.specs.BackLeft.{left_of, left_at, gained}
use Rattle.back_laws.specs.JobLeft.{all_left}
use Rattle.split_model.specs.World.{World}
use Rattle.ring_settle_laws.specs.Left.{event_price, back_sends, front_saw, back_saw, marks_left}
use Rattle.ring_settle_laws.proofs.Gone.{back_watch}

abbrev pub unseen_of : front.View → BackStage → back.View → ℕ
unseen_of f b v = 7 * distance_of (front_saw f.stage f) v.ring.indices.prod + 39 * distance_of (back_saw b v) f.ring.indices.prod

-- the event that the back may send, its jobs, what isn't seen yet, and marks
abbrev pub beside : front.View → BackStage → back.View → ChannelState → ℕ
beside f b v c = back_sends b + all_left v.jobs.works + unseen_of f b v + marks_left c

-- what is left to the back itself falls, but by what the answer brings
abbrev pub LowersTo : World → BackStage → back.View → BackAnswer → Type 0
LowersTo w b v given = left_of v < left_at b w.back + gained b w.back given

-- the rest, with the requests, pays for what the answer brings
abbrev pub PaysTo : World → BackStage → (v : back.View) (given : BackAnswer) (c : ChannelState) (before after : ℕ) → Type 0
PaysTo w b v given c before after = beside w.front v.stage v c + after + gained b w.back given ≤ beside w.front b w.back w.under.channels + before + back_watch given

-- so all falls
abbrev pub FallsTo : World → BackStage → (v : back.View) (given : BackAnswer) (c : ChannelState) (before after : ℕ) → Type 0
FallsTo w b v given c before after = left_of v + beside w.front v.stage v c + after + 1 ≤ left_at b w.back + beside w.front b w.back w.under.channels + before + back_watch given

added : (l' l g b' b r' r k : ℕ) → l' < l + g → b' + r' + g ≤ b + r + k → l' + b' + r' + 1 ≤ l + b + r + k
added l' l g b' b r' r k low pays = omega arith

pub falls : (w : World) (b : BackStage) (v : back.View) (given : BackAnswer) (c : ChannelState) (before after : ℕ) → LowersTo w b v given → PaysTo w b v given c before after → FallsTo w b v given c before after
falls w b v given c before after low pays =
    added (left_of v) (left_at b w.back) (gained b w.back given) (beside w.front v.stage v c) (beside w.front b w.back w.under.channels) after before (back_watch given) low pays

parts : (s s' j j' u u' m m' r r' g k : ℕ) → s' + m' + g ≤ s + m + k → j' ≤ j → u' ≤ u → r' ≤ r → s' + j' + u' + m' + r' + g ≤ s + j + u + m + r + k
parts s s' j j' u u' m m' r r' g k sends jobs unseen requests = omega arith

-- where jobs and what isn't seen don't rise
pub pays_by : (w : World) (b : BackStage) (v : back.View) (given : BackAnswer) (c : ChannelState) (before after : ℕ)
    → back_sends v.stage + marks_left c + gained b w.back given ≤ back_sends b + marks_left w.under.channels + back_watch given
    → all_left v.jobs.works ≤ all_left w.back.jobs.works
    → unseen_of w.front v.stage v ≤ unseen_of w.front b w.back
    → after ≤ before
    → PaysTo w b v given c before after
pays_by w b v given c before after sends jobs unseen requests =
    parts (back_sends b) (back_sends v.stage) (all_left w.back.jobs.works) (all_left v.jobs.works) (unseen_of w.front b w.back) (unseen_of w.front v.stage v) (marks_left w.under.channels) (marks_left c) before after (gained b w.back given) (back_watch given)
    sends jobs unseen requests

pub same : (n : ℕ) → n ≤ n
same n = omega arith

-- an act by what a step makes of its answer
abbrev pub Pays : World → BackStage → (BackAnswer → back.View) → (before after : ℕ) → BackAct → Type 0
Pays w b step before after a = PaysTo w b (step a.answer) a.answer a.under.channels before after

abbrev pub Falls : World → BackStage → (BackAnswer → back.View) → (before after : ℕ) → BackAct → Type 0
Falls w b step before after a = FallsTo w b (step a.answer) a.answer a.under.channels before after

-- what holds of the act that there is
pub of_act : (P : BackAct → Type 0) (x a : BackAct) → Some x ≡ Some a → P x → P a
of_act P x a e p = subst P (same_Some x a e) p

-- a branch that is taken
pub taken_branch : (P : back.View → Type 0) (b : Bool) (x y : back.View) → b ≡ true → P x → P (if b then x else y)
taken_branch P true x y e p = p
taken_branch P false x y e p = absurd (cc)

pub other_branch : (P : back.View → Type 0) (b : Bool) (x y : back.View) → b ≡ false → P y → P (if b then x else y)
other_branch P false x y e p = p
other_branch P true x y e p = absurd (cc)

-- the acts of a back that waits
abbrev pub event_act : Hypervisor → BackAct
event_act h = record { answer = answer.Event; under = record h { channels = taken h.channels end.Back }; shown = moves.Event mover.Back }

abbrev pub watched_act : Hypervisor → List ℕ → BackAct
watched_act h path = record { answer = answer.Watched path; under = watch_taken h end.Back; shown = moves.Watched mover.Back path }

pub waiting : (P : BackAct → Type 0) (h : Hypervisor) (a : BackAct) → wait_act h back_mover.Back ≡ Some a
    → (h.channels.back_pending ≡ true → P (event_act h)) → ((path : List ℕ) → P (watched_act h path)) → P a
waiting P h a e event watched = by_pending h.channels.back_pending refl e
  where
    by_next : (next : Option (List ℕ)) → back_watched h next ≡ Some a → P a
    by_next None e = absurd (none-some a e)
    by_next (Some path) e = of_act P (watched_act h path) a e (watched path)

    by_pending : (b : Bool) → h.channels.back_pending ≡ b → (if b then Some (event_act h) else back_watched h (watch_next h end.Back)) ≡ Some a → P a
    by_pending true is e = of_act P (event_act h) a e (event is)
    by_pending false is e = by_next (watch_next h end.Back) e

-- an event that is taken pays by its mark
pub event_pays : (c : ChannelState) → c.back_pending ≡ true → marks_left (taken c end.Back) + event_price ≤ marks_left c
event_pays c is = rw is (omega arith)
