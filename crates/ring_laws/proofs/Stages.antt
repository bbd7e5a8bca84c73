-- Whatever the back is at, its move keeps the rules of the ring.
use Rattle.std.proofs.Common.{◌≡◌, ℕ, ◌+◌, ◌==◌, true, false, if◌then◌else◌, Bool, List, [], ◌∷◌, ◌++◌, refl, sym, subst, append_assoc, arith, append-nil}
use Rattle.std.specs.Prelude.{Option, Some, None, is_some}
use Rattle.blk_base.specs.declared.parts.Mapping.{Mapping}
use Rattle.blk_base.specs.declared.parts.Mode.TheVariants.{ReadWrite}
use Rattle.blk_base.specs.declared.ask.BackAsk.TheVariants as ask
use Rattle.blk_base.specs.declared.ask.BackAnswer.{BackAnswer}
use Rattle.blk_base.specs.declared.ask.BackAnswer.TheVariants as answers
use Rattle.blk_base.specs.declared.moves.BackMover.TheVariants as back
use Rattle.blk_base.specs.declared.moves.Mover.TheVariants as mover
use Rattle.blk_base.specs.declared.moves.Move.{Move}
use Rattle.blk_base.specs.declared.moves.Move.TheVariants as moves
use Rattle.grant_table.specs.Table.{frame_of, verdict_at}
use Rattle.event_channel.specs.Channels.{state_of}
use Rattle.hypervisor.specs.Hypervisor.{Hypervisor}
use Rattle.hypervisor.specs.Act.{BackAct, Outcome, Took, back_act}
use Rattle.ring_words.specs.Ring.{next_of, requests_of, notifies}
use Rattle.ring_words.specs.Shape.{entry_words_of}
use Rattle.schedule_text.specs.declared.line.Line.{Line}
use Rattle.schedule_text.specs.declared.line.Line.TheVariants as lines
use Rattle.back_jobs.specs.Jobs.{first_mapping}
use Rattle.blk_back.specs.declared.stage.Reply.{Reply}
use Rattle.blk_back.specs.declared.stage.BackStage.{BackStage}
use Rattle.blk_back.specs.declared.stage.BackStage.TheVariants as stage
use Rattle.blk_back.specs.View.{View, page_of, slot_page}
use Rattle.blk_back.specs.Ask.{ask_at, loop_ask, index_ask, entry_ask, unmap_ask, next_gref, next_reply, response_word}
use Rattle.blk_back.specs.Step.{at, abort, unmapped_bound, unmapped_unbound, other_pages, replied, loop_step}
use Rattle.split_model.proofs.SafeActs.{of_back, back_wait}
use Rattle.ring_laws.proofs.Shows.{Sight, Shows, shows_other}
use Rattle.ring_laws.proofs.Touches.{shows_replied}
use Rattle.ring_laws.proofs.Pages.{AreEarlier}
use Rattle.ring_laws.proofs.Entry.{first_is}
use Rattle.ring_laws.proofs.ObeysRing.{ObeysRing, IsWhole, ring_more, shows_none, foreign_stretch, word_inside}
use Rattle.ring_laws.proofs.Knows.{unhalted, Waits, Serves, IsOver, KnowsAt, Knows, knows_still, Follows, BackGoes}
use Rattle.ring_laws.proofs.Serving.{not_over, served_line, between, rest_other, serve_other, serve_write, serve_slot, serve_index, over_other}
use Rattle.ring_laws.proofs.Looking.{giving_knows, looked_goes, seen_producer}
use Rattle.ring_laws.proofs.Back.{Goes, unbound_knows, bound_knows, map_goes, bind_goes, fetch_goes, word_goes, look_goes}
use Rattle.ring_laws.proofs.EntryWords.{none_whole}

-- an act of a back in its loop, by what it replies
abbrev Loops : ℕ → List ℕ → List Line → Option Reply → View → BackAct → Type 0
Loops start values before r v a = BackGoes start values before v (loop_step v r a.answer) a.answer a.shown

idle_goes : (before : List Line) (h : Hypervisor) (v : View) (o : Outcome) (a : BackAct) (x : Sight) (asleep none : Bool) → (requests_of v.ring.indices v.ring.seen == 0) ≡ none → Serves 0 x v → Knows x v → Shows before x → ObeysRing before x.start (is_some v.halted) → v.told ≡ None
    → back_act h back.Back (if asleep then ask.Wait else (if none then index_ask v 0 else entry_ask v 0)) o ≡ Some a → Loops x.start x.values before None v a
idle_goes before h v o a x true none t s kept shows stands told e = back_wait (Loops x.start x.values before None v) h back.Back a (serve_other before v (record v { ring = record v.ring { asleep = false } }) _ (moves.Event mover.Back) x s shows stands refl refl told refl (knows_still v.stage x v false v.jobs v.told kept)) (λ path. serve_other before v v _ (moves.Watched mover.Back path) x s shows stands refl refl told refl kept) e
idle_goes before h v o a x false true t s kept shows stands told e = of_back (Loops x.start x.values before None v) _ a (look_goes before v (frame_of h.grants (page_of v 0)) _ _ x t s shows stands told) e
idle_goes before h v o a x false false t s kept shows stands told e = of_back (Loops x.start x.values before None v) _ a (word_goes before v (frame_of h.grants (slot_page v v.ring.indices.cons 0)) _ _ x t s shows stands told) e

loop_goes : (before : List Line) (h : Hypervisor) (v : View) (o : Outcome) (a : BackAct) (x : Sight) (r : Option Reply) → Serves 0 x v → Knows x v → Shows before x → ObeysRing before x.start (is_some v.halted) → v.told ≡ None
    → back_act h back.Back (loop_ask v r) o ≡ Some a → Loops x.start x.values before r v a
loop_goes before h v o a x (Some r) s kept shows stands told e = of_back (Loops x.start x.values before (Some r) v) _ a (serve_slot before v _ _ (frame_of h.grants (slot_page v v.ring.indices.prod 0)) v.ring.indices.prod 0 (response_word r 0) x s shows stands (omega arith) told refl s) e
loop_goes before h v o a x None s kept shows stands told e = idle_goes before h v o a x v.ring.asleep (requests_of v.ring.indices v.ring.seen == 0) refl s kept shows stands told e

-- the reply's producer is written, and the reply told
producer_goes : (before : List Line) (v : View) (frame : ℕ) (r : Reply) (answer : BackAnswer) (x : Sight) → Serves 0 x v → Shows before x → ObeysRing before x.start (is_some v.halted)
    → (let page : Mapping = page_of v 0 in BackGoes x.start x.values before v (replied v r) answer (moves.Write back.Back page.number frame 2 (next_of v.ring.indices.prod)))
producer_goes before v frame r answer x s shows stands =
    let page : Mapping = page_of v 0 in
    let shown : Move = moves.Write back.Back page.number frame 2 (next_of v.ring.indices.prod) in
    let reply : Line = lines.Reply r.id r.status in
    let longer : List Line = before ++ lines.Move shown ∷ [] in
    let one : Shows (before ++ lines.Move shown ∷ []) (record x { replied = next_of v.ring.indices.prod }) = shows_replied before x page.number frame (next_of v.ring.indices.prod) (first_is 0 x v s) shows in
    let first : ObeysRing (before ++ lines.Move shown ∷ []) x.start (is_some v.halted) = served_line before x v.halted shown s.running stands (shows_none before (lines.Move shown) refl) refl (λ small. between before shown x v s shows refl (word_inside before page.number 2 (omega arith))) in
    let second : ObeysRing (longer ++ reply ∷ []) x.start (is_some v.halted) = ring_more longer reply x.start (is_some v.halted) first refl (shows_none longer reply refl) (λ over. not_over v.halted true s.running over) refl (λ read. absurd (cc)) (λ small. foreign_stretch longer reply refl refl) in
    let two : Shows (longer ++ reply ∷ []) (record x { replied = next_of v.ring.indices.prod }) = shows_other longer reply (record x { replied = next_of v.ring.indices.prod }) refl refl one in
    let after : Follows x.start x.values (before ++ lines.Move shown ∷ reply ∷ []) (replied v r) = record {
      sight = record x { replied = next_of v.ring.indices.prod };
      begun = refl;
      more = [];
      grown = sym (append-nil x.values);
      shows = subst (λ (ls : List Line). Shows ls (record x { replied = next_of v.ring.indices.prod })) (append_assoc before (lines.Move shown ∷ []) (reply ∷ [])) two;
      knows = record { narrow = s.narrow; layout = s.layout; entries = s.entries; running = s.running; touched = s.touched; mapped = s.mapped; all = s.all; replied = refl; produced = s.produced; count = s.count; words = s.words; within = s.within; consumed = s.consumed; long = s.long; numbered = s.numbered; copied = s.copied; copied_last = s.copied_last };
      stands = subst (λ (ls : List Line). ObeysRing ls x.start (is_some v.halted)) (append_assoc before (lines.Move shown ∷ []) (reply ∷ [])) second;
    } in
    subst (λ (ls : List Line). Follows x.start x.values (before ++ lines.Move shown ∷ reply ∷ ls) (replied v r)) (sym (unhalted v.halted)) after

-- the back waits for the terms of its front
waits_goes : (before : List Line) (h : Hypervisor) (v : View) (a : BackAct) (x : Sight) → KnowsAt stage.InitWait x v → Knows x v → Shows before x → ObeysRing before x.start (is_some v.halted) → v.told ≡ None → back_act h back.Back ask.Wait Took ≡ Some a → Goes x.start x.values before stage.InitWait v a
waits_goes before h v a x n kept shows stands told e =
    let w : Waits x v.ring.indices v.ring.seen v.halted v.fetched = n.waits in
    let whole : IsWhole x = none_whole x.abi x.words w.words in
    back_wait (Goes x.start x.values before stage.InitWait v) h back.Back a
    (rest_other before v v _ (moves.Event mover.Back) x whole (λ over. refl) shows stands refl refl told refl kept)
    (λ path. rest_other before v v _ (moves.Watched mover.Back path) x whole (λ over. refl) shows stands refl refl told refl kept) e

-- a halted back unmaps the first page that is left, or waits
unmap_goes : (before : List Line) (h : Hypervisor) (v new : View) (o : Outcome) (a : BackAct) (x : Sight) (pages : List Mapping) → IsOver x v.halted → Shows before x → ObeysRing before x.start (is_some v.halted) → new.told ≡ None → new.halted ≡ v.halted → Knows x new
    → back_act h back.Back (unmap_ask pages) o ≡ Some a → BackGoes x.start x.values before v new a.answer a.shown
unmap_goes before h v new o a x [] k shows stands told halted knows e =
    back_wait (λ (b : BackAct). BackGoes x.start x.values before v new b.answer b.shown) h back.Back a
    (over_other before v new _ (moves.Event mover.Back) x k shows stands refl refl refl told halted knows) (λ path. over_other before v new _ (moves.Watched mover.Back path) x k shows stands refl refl refl told halted knows) e
unmap_goes before h v new o a x (page ∷ pages) k shows stands told halted knows e =
    of_back (λ (b : BackAct). BackGoes x.start x.values before v new b.answer b.shown) _ a (over_other before v new _ (moves.Unmap back.Back page.number) x k shows stands refl refl refl told halted knows) e

send_knows : (b : Bool) (x : Sight) (v : View) → Serves 0 x v → Knows x (at (if b then stage.Send else stage.Loop) v)
send_knows true x v k = k
send_knows false x v k = k

pub back_goes : (before : List Line) (h : Hypervisor) (s : BackStage) (v : View) (o : Outcome) (a : BackAct) (x : Sight) → AreEarlier h.grants.made v.pages → KnowsAt s x v → Knows x v → Shows before x → ObeysRing before x.start (is_some v.halted) → v.told ≡ None
    → back_act h back.Back (ask_at s v) o ≡ Some a → Goes x.start x.values before s v a
back_goes before h stage.InitWait v o a x earlier k kept shows stands told e = waits_goes before h v a x k kept shows stands told e
back_goes before h stage.MapRing v o a x earlier k kept shows stands told e =
    of_back (Goes x.start x.values before stage.MapRing v) _ a (map_goes before h v x (verdict_at h.pages (next_gref v) ReadWrite) earlier k shows stands told) e
back_goes before h stage.Bind v o a x earlier k kept shows stands told e = of_back (Goes x.start x.values before stage.Bind v) _ a (bind_goes before h v x (state_of h.channels v.ring.port) k shows stands told) e
back_goes before h stage.Loop v o a x earlier k kept shows stands told e = loop_goes before h v o a x (next_reply v) k kept shows stands told e
back_goes before h (stage.Fetch n) v o a x earlier k kept shows stands told e =
    of_back (Goes x.start x.values before (stage.Fetch n) v) _ a (fetch_goes before v (frame_of h.grants (slot_page v v.ring.indices.cons n)) n _ _ x (n + 1 == entry_words_of v.shape.abi) refl k.0 k.1 shows stands told) e
back_goes before h (stage.ReplyHigh r) v o a x earlier k kept shows stands told e =
    of_back (Goes x.start x.values before (stage.ReplyHigh r) v) _ a (serve_slot before v _ _ (frame_of h.grants (slot_page v v.ring.indices.prod 1)) v.ring.indices.prod 1 (response_word r 1) x k shows stands (omega arith) told refl k) e
back_goes before h (stage.ReplyLast r) v o a x earlier k kept shows stands told e =
    of_back (Goes x.start x.values before (stage.ReplyLast r) v) _ a (serve_slot before v _ _ (frame_of h.grants (slot_page v v.ring.indices.prod 2)) v.ring.indices.prod 2 (response_word r 2) x k shows stands (omega arith) told refl k) e
back_goes before h (stage.Producer r) v o a x earlier k kept shows stands told e = of_back (Goes x.start x.values before (stage.Producer r) v) _ a (producer_goes before v (frame_of h.grants (page_of v 0)) r answers.Done x k shows stands) e
back_goes before h (stage.ProducerFence old) v o a x earlier k kept shows stands told e = of_back (Goes x.start x.values before (stage.ProducerFence old) v) _ a (serve_other before v _ _ (moves.Fence mover.Back) x k shows stands refl refl told refl k) e
back_goes before h (stage.ResponseEvent old) v o a x earlier k kept shows stands told e =
    of_back (Goes x.start x.values before (stage.ResponseEvent old) v) _ a
    (serve_index before v (at (if notifies old v.ring.indices.prod _ then stage.Send else stage.Loop) v) _ (frame_of h.grants (page_of v 0)) 3 _ x k shows stands refl (omega arith) told refl (send_knows (notifies old v.ring.indices.prod _) x v k)) e
back_goes before h stage.Send v o a x earlier k kept shows stands told e = of_back (Goes x.start x.values before stage.Send v) _ a (serve_other before v _ _ (moves.Send mover.Back) x k shows stands refl refl told refl k) e
back_goes before h stage.StoreEvent v o a x earlier k kept shows stands told e =
    let page : Mapping = page_of v 0 in
    of_back (Goes x.start x.values before stage.StoreEvent v) _ a (serve_write before v _ _ page.number 0 (frame_of h.grants (page_of v 0)) 1 (next_of v.ring.indices.cons) x (first_is 0 x v k) k shows stands refl (omega arith) told refl k) e
back_goes before h stage.EventFence v o a x earlier k kept shows stands told e = of_back (Goes x.start x.values before stage.EventFence v) _ a (serve_other before v _ _ (moves.Fence mover.Back) x k shows stands refl refl told refl k) e
back_goes before h stage.LookAgain v o a x earlier k kept shows stands told e =
    of_back (Goes x.start x.values before stage.LookAgain v) _ a (looked_goes before v (record v { ring = record v.ring { seen = _; asleep = true }; stage = stage.Loop }) _ (frame_of h.grants (page_of v 0)) _ x k shows stands told told refl (seen_producer _ x v k)) e
back_goes before h (stage.Abort m) v o a x earlier k kept shows stands told e =
    of_back (Goes x.start x.values before (stage.Abort m) v) _ a (over_other before v (abort v) _ (moves.Unmap back.Back m.number) x k shows stands refl refl refl told refl (giving_knows (first_mapping v.jobs.works) x (abort v) k)) e
back_goes before h stage.UnmapRing v o a x earlier k kept shows stands told e = unmap_goes before h v (unmapped_bound v) o a x v.pages k shows stands told refl (bound_knows (other_pages v.pages) x (unmapped_bound v) k) e
back_goes before h stage.ClosePort v o a x earlier k kept shows stands told e = of_back (Goes x.start x.values before stage.ClosePort v) _ a (over_other before v _ _ (moves.ClosePort mover.Back) x k shows stands refl refl refl told refl k) e
back_goes before h stage.UnmapUnbound v o a x earlier k kept shows stands told e = unmap_goes before h v (unmapped_unbound v) o a x v.pages k shows stands told refl (unbound_knows (other_pages v.pages) x (unmapped_unbound v) k) e
back_goes before h stage.Halted v o a x earlier k kept shows stands told e = unmap_goes before h v v o a x [] k shows stands told refl kept e
