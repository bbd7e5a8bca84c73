-- The back's negotiation and its end of the ring count the same pages, and until a halt go by the same terms, whatever either is told.
use Rattle.std.proofs.Common.{◌≡◌, ℕ, ◌+◌, Bool, true, false, true≢false, ◌&&◌, if◌then◌else◌, List, [], ◌∷◌, ◌++◌, refl, sym, ap, ◌∙◌, subst}
use Rattle.std.specs.Prelude.{Option, Some, None, ◌==◌}
use Rattle.std.proofs.Math.Bool.{and-false}
use Rattle.line_text.proofs.Both.{both_true}
use Rattle.blk_base.specs.declared.parts.Mapping.{Mapping}
use Rattle.blk_base.specs.declared.ask.BackAnswer.{BackAnswer}
use Rattle.blk_base.specs.declared.ask.BackAnswer.TheVariants as answer
use Rattle.ring_words.specs.Ring.{requests_of, overruns}
use Rattle.ring_words.specs.Shape.{Shape, entry_words_of}
use Rattle.blk_back.specs.declared.stage.Reply.{Reply}
use Rattle.blk_back.specs.declared.stage.BackStage.{BackStage}
use Rattle.blk_back.specs.declared.stage.BackStage.TheVariants as ring
use Rattle.blk_back.specs.View as ends
use Rattle.blk_back.specs.Ask.{next_reply}
use Rattle.blk_back.specs.Step as ring_step
use Rattle.xenbus_state.specs.declared.keys.FrontKey.{FrontKey}
use Rattle.xenbus_state.specs.declared.keys.FrontKey.TheVariants as key
use Rattle.xenbus_state.specs.declared.state.BusState.{BusState}
use Rattle.xenbus_state.specs.declared.state.BusState.TheVariants as state
use Rattle.xenbus_state.specs.declared.stage.BackBusStage.{BackBusStage}
use Rattle.xenbus_state.specs.declared.stage.BackBusStage.TheVariants as stage
use Rattle.xenbus_state.specs.declared.back.BackBusAsk.{BackBusAsk}
use Rattle.xenbus_state.specs.declared.back.BackBusAsk.TheVariants as bus_ask
use Rattle.xenbus_state.specs.declared.table.BackAction.{BackAction}
use Rattle.xenbus_state.specs.declared.table.BackAction.TheVariants as action
use Rattle.xenbus_state.specs.declared.table.BackHalt.{BackHalt}
use Rattle.xenbus_state.specs.States.{state_read}
use Rattle.xenbus_state.specs.Tables.{back_action}
use Rattle.xenbus_state.specs.BackView.{BackView, is_halting, unplugged}
use Rattle.xenbus_state.specs.BackAsk.{says_closing_at, says_closing, unmap_ask, ask_at, ask_of, IsAnswer}
use Rattle.xenbus_state.specs.BackReading.{key_read}
use Rattle.xenbus_state.specs.BackStep.{at, acted, action_halt, key_halt, kept_or_halted, unmapping_next, step_at, step_of, halt_at, halt_of}
use Rattle.xenbus_state.specs.BackSound.{IsSound}
use Rattle.xenbus_state.specs.declared.values.FrontTerms.{FrontTerms}
use Rattle.xenbus_state.specs.Runs.{Unplugs}
use Rattle.xenbus_state.proofs.BackKeeps.{back_keeps}
use Rattle.xenbus_state.proofs.BackTurns.{back_turn_keeps}
use Rattle.vbd_back.specs.Ask.{speaks}
use Rattle.vbd_back.specs.Step.{reads_layout, shape_read, ring_halt, ring_led, settled_at, settled, waited}
use Rattle.split_model.proofs.States.{halts_cases}
use Rattle.vbd_model.specs.Fit.{is_serving, BackGoesWith, has_terms, HaveTerms}
use Rattle.vbd_laws.proofs.FitBackBus.{BackFits, BackShares, Reads, told_at, reads_key}

-- what the end of the ring has of its front's terms, and the pages that it has mapped
abbrev pub Terms : Type 0
Terms = Shape × List ℕ × ℕ × List Mapping

abbrev pub terms_in : ends.View → Terms
terms_in r = (r.shape, r.grefs, r.ring.port, r.pages)

either : (b : Bool) (x y : ends.View) (t : Terms) → terms_in x ≡ t → terms_in y ≡ t → terms_in (if b then x else y) ≡ t
either true x y t p q = p
either false x y t p q = q

looked_terms : (v : ends.View) (word : ℕ) (otherwise : ends.View) → terms_in otherwise ≡ terms_in v → terms_in (ring_step.looked v word otherwise) ≡ terms_in v
looked_terms v word otherwise h =
    either (overruns v.ring.indices word) (ring_step.overrun v word) (if word == v.ring.indices.cons then otherwise else record v { ring = record v.ring { seen = word }; stage = ring.Loop }) (terms_in v) refl
    (either (word == v.ring.indices.cons) otherwise (record v { ring = record v.ring { seen = word }; stage = ring.Loop }) (terms_in v) h refl)

loop_terms : (v : ends.View) (r : Option Reply) (x : BackAnswer) → terms_in (ring_step.loop_step v r x) ≡ terms_in v
loop_terms v (Some r) x = refl
loop_terms v None (answer.Word word) =
    either (requests_of v.ring.indices v.ring.seen == 0) (ring_step.looked v word (record v { ring = record v.ring { seen = word }; stage = ring.StoreEvent })) (record v { ring = record v.ring { entry = word ∷ [] }; stage = ring.Fetch 1 }) (terms_in v)
    (looked_terms v word (record v { ring = record v.ring { seen = word }; stage = ring.StoreEvent }) refl) refl
loop_terms v None answer.Event = refl
loop_terms v None x = refl

-- it maps or unmaps a page now
abbrev changes : BackStage → Bool
changes ring.MapRing = true
changes ring.UnmapRing = true
changes ring.UnmapUnbound = true
changes s = false

step_all : (s : BackStage) (v : ends.View) (x : BackAnswer) → changes s ≡ false → terms_in (ring_step.step_at s v x) ≡ terms_in v
step_all ring.MapRing v x still = absurd (true≢false still)
step_all ring.UnmapRing v x still = absurd (true≢false still)
step_all ring.UnmapUnbound v x still = absurd (true≢false still)
step_all ring.Bind v answer.Done still = refl
step_all ring.Bind v answer.BindRefused still = refl
step_all ring.Loop v x still = loop_terms v (next_reply v) x
step_all (ring.Fetch k) v (answer.Word word) still = either (k + 1 == entry_words_of v.shape.abi) (ring_step.fetched v (v.ring.entry ++ word ∷ [])) (record v { ring = record v.ring { entry = v.ring.entry ++ word ∷ [] }; stage = ring.Fetch (k + 1) }) (terms_in v) refl refl
step_all (ring.ResponseEvent old) v (answer.Word event) still = refl
step_all ring.LookAgain v (answer.Word word) still = looked_terms v word (record v { ring = record v.ring { seen = word; asleep = true }; stage = ring.Loop }) refl
step_all s v x still = refl

-- the terms alone
abbrev pub of_front : ends.View → Shape × List ℕ × ℕ
of_front r = (r.shape, r.grefs, r.ring.port)

pub step_terms : (s : BackStage) (v : ends.View) (x : BackAnswer) → of_front (ring_step.step_at s v x) ≡ of_front v
step_terms ring.MapRing v (answer.Mapped m) = refl
step_terms ring.MapRing v (answer.MapRefused status) = refl
step_terms ring.MapRing v x = refl
step_terms ring.UnmapRing v x = refl
step_terms ring.UnmapUnbound v x = refl
step_terms s v x = ap (λ (t : Terms). (t.0, t.1, t.2)) (step_all s v x refl)

pub step_pages : (s : BackStage) (v : ends.View) (x : BackAnswer) → changes s ≡ false → (ring_step.step_at s v x).pages ≡ v.pages
step_pages s v x still = ap (λ (t : Terms). t.3) (step_all s v x still)

pub serving_still : (s : BackStage) → is_serving s ≡ true → changes s ≡ false
serving_still ring.MapRing is = absurd (true≢false (sym is))
serving_still ring.UnmapRing is = absurd (true≢false (sym is))
serving_still ring.UnmapUnbound is = absurd (true≢false (sym is))
serving_still s is = refl

-- the negotiation has the same pages and terms
pub record IsAlike (v u : BackView) : Type 0 where
  pub pages : u.pages ≡ v.pages
  pub terms : u.terms ≡ v.terms
  pub grefs : u.grefs ≡ v.grefs

alike : (v : BackView) → IsAlike v v
alike v = record { pages = refl; terms = refl; grefs = refl }

-- it counts what the end of the ring has to unmap, and goes on
pub gives_halting : (pages : List Mapping) (bound : Bool) (own : BusState) → is_halting (unmapping_next pages bound own) ≡ true
gives_halting (page ∷ pages) bound own = refl
gives_halting [] true own = refl
gives_halting [] false state.Closing = refl
gives_halting [] false own = refl

others_asked : (v : BackView) → v.stage ≡ stage.UnmapOthers → says_closing v ≡ false
others_asked v here = ap (λ (b : BackBusStage). v.unplugged && says_closing_at b v.state) here ∙ and-false v.unplugged

has_unmapped : (v : BackView) → v.stage ≡ stage.UnmapOthers → step_of v answer.Done ≡ at (unmapping_next v.pages v.bound v.state) v
has_unmapped v here = told_at v answer.Done (others_asked v here) ∙ ap (λ (b : BackBusStage). step_at b v answer.Done) here

settled_cases : (P : BackView → Type 0) (s : BackStage) (v : BackView) → P v → (v.stage ≡ stage.UnmapOthers → P (step_of v answer.Done)) → P (settled s v)
settled_cases P s v same given = by_stage v.stage s refl
  where
    by_stage : (b : BackBusStage) (s : BackStage) → v.stage ≡ b → P (settled_at b s v)
    by_stage stage.UnmapOthers (ring.Abort m) here = same
    by_stage stage.UnmapOthers s here = given here
    by_stage b s here = same

pub settled_alike : (s : BackStage) (v : BackView) → IsAlike v (settled s v)
settled_alike s v = settled_cases (IsAlike v) s v (alike v) (λ here. subst (IsAlike v) (sym (has_unmapped v here)) (record { pages = refl; terms = refl; grefs = refl }))

settled_sound : (s : BackStage) (v : BackView) → IsSound v → IsSound (settled s v)
settled_sound s v sound =
    settled_cases IsSound s v sound (λ here. back_keeps v answer.Done (subst (λ (c : Bool). IsAnswer (if c then bus_ask.SetState state.Closing else ask_at v.stage v) answer.Done) (sym (others_asked v here)) (rw here tt)) sound)

-- where it goes on it went on before
settled_on : (s : BackStage) (v : BackView) → is_halting (settled s v).stage ≡ false → is_halting v.stage ≡ false
settled_on s v on = settled_cases (λ (u : BackView). is_halting u.stage ≡ false → is_halting v.stage ≡ false) s v (λ same. same)
    (λ here still. absurd (true≢false (sym (ap (λ (u : BackView). is_halting u.stage) (has_unmapped v here) ∙ gives_halting v.pages v.bound v.state) ∙ still))) on

have_alike : (r : ends.View) (v u : BackView) → IsAlike v u → HaveTerms r v → HaveTerms r u
have_alike r v u same have = record { shape = have.shape ∙ ap (λ (t : FrontTerms). record { abi = t.abi; order = t.order }) (sym same.terms); grefs = have.grefs ∙ sym same.grefs; port = have.port ∙ ap (λ (t : FrontTerms). t.port) (sym same.terms) }

-- the end of the ring is led by the negotiation: no page is mapped or unmapped at once
led_pages : (why : Option BackHalt) (reads : Bool) (w : BackView) (r : ends.View) → (ring_led why reads w r).pages ≡ r.pages
led_pages (Some why) reads w r = halts_cases (λ (x : ends.View). x.pages ≡ r.pages) (ring_halt why) r (λ here. refl) (λ here. refl) refl
led_pages None true w r = by_test (ring_step.may_attach (shape_read w) w.grefs r)
  where
    by_test : (may : Bool) → (if may then ring_step.attached (shape_read w) w.grefs w.terms.port r else r).pages ≡ r.pages
    by_test true = refl
    by_test false = refl
led_pages None false w r = refl

-- what the negotiation hears of the keys leaves its pages
spoken_pages : (b : BackBusStage) (v : BackView) (x : BackAnswer) → speaks (ask_at b v) ≡ true → (step_at b v x).pages ≡ v.pages
spoken_pages (stage.Publish k) v answer.Done says = refl
spoken_pages (stage.WriteState own) v answer.Done says = refl
spoken_pages stage.Watch v answer.Done says = refl
spoken_pages stage.ReadState v (answer.Key text) says = by_act (back_action v.state v.unplugged (state_read text))
  where
    by_act : (act : BackAction) → (acted act v).pages ≡ v.pages
    by_act action.Nothing = refl
    by_act other = refl
spoken_pages (stage.ReadKey k) v (answer.Key text) says = reads_key (λ (o : Option BackView). (kept_or_halted o v).pages ≡ v.pages) k text v (λ u reads. reads.pages) refl
spoken_pages (stage.PublishFact k) v answer.Done says = refl
spoken_pages stage.UnmapPage v x says = absurd (unmap_says v.pages says)
  where
    unmap_says : (pages : List Mapping) → speaks (unmap_ask pages) ≡ true → ⊥
    unmap_says [] says = true≢false (sym says)
    unmap_says (page ∷ pages) says = true≢false (sym says)
spoken_pages stage.Rest v x says = absurd (true≢false (sym says))
spoken_pages stage.MapPage v x says = absurd (true≢false (sym says))
spoken_pages stage.Bind v x says = absurd (true≢false (sym says))
spoken_pages stage.UnmapOthers v x says = absurd (true≢false (sym says))
spoken_pages stage.ClosePort v x says = absurd (true≢false (sym says))
spoken_pages stage.Halted v x says = absurd (true≢false (sym says))
spoken_pages b v x says = refl

-- and the terms of the end of the ring are those that it has read, once it has taken them
abbrev TermsAfter : Option BackHalt → Bool → BackView → ends.View → Type 0
TermsAfter why reads w r = let y : ends.View = ring_led why reads w r in has_terms y.stage ≡ true → is_halting w.stage ≡ false → HaveTerms y w

waits_not : (r : ends.View) → r.stage ≡ ring.InitWait → has_terms r.stage ≡ true → ⊥
waits_not r here has = true≢false (sym has ∙ ap has_terms here)

key_terms : (k : FrontKey) (text : Option (List ℕ)) (v : BackView) (r : ends.View) → v.stage ≡ stage.ReadKey k → BackGoesWith (stage.ReadKey k) v.state r.stage → BackShares v r
    → TermsAfter (key_halt k (key_read k text v)) (reads_layout (bus_ask.GetKey k)) (kept_or_halted (key_read k text v) v) r
key_terms k text v r here goes shares =
    reads_key (λ (o : Option BackView). TermsAfter (key_halt k o) (reads_layout (bus_ask.GetKey k)) (kept_or_halted o v) r) k text v (λ u reads. by_key k goes u reads) (λ has on. absurd (true≢false on))
  where
    by_key : (k : FrontKey) → BackGoesWith (stage.ReadKey k) v.state r.stage → (u : BackView) → Reads k v u → TermsAfter None (reads_layout (bus_ask.GetKey k)) u r
    by_key key.Protocol goes u reads = by_test (ring_step.may_attach (shape_read u) u.grefs r)
      where
        by_test : (may : Bool) → let y : ends.View = if may then ring_step.attached (shape_read u) u.grefs u.terms.port r else r in has_terms y.stage ≡ true → is_halting u.stage ≡ false → HaveTerms y u
        by_test true has on = record { shape = refl; grefs = refl; port = refl }
        by_test false has on = absurd (waits_not r goes.1 has)
    by_key key.FeaturePersistent goes u reads = λ has on.
        let have = shares.terms has (ap is_halting here) in
        record { shape = have.shape ∙ sym reads.next.1; grefs = have.grefs ∙ sym reads.next.2; port = have.port ∙ sym reads.next.3 }
    by_key other goes u reads = λ has on. absurd (waits_not r goes.1 has)

same_terms : (b : BackBusStage) (v w : BackView) (r : ends.View) → v.stage ≡ b → is_halting b ≡ false → IsAlike v w → BackShares v r → has_terms r.stage ≡ true → is_halting w.stage ≡ false → HaveTerms r w
same_terms b v w r here on same shares has still = have_alike r v w same (shares.terms has (ap is_halting here ∙ on))

heard_terms : (b : BackBusStage) (v : BackView) (r : ends.View) (x : BackAnswer) → v.stage ≡ b → BackGoesWith b v.state r.stage → BackShares v r → speaks (ask_at b v) ≡ true → IsAnswer (ask_at b v) x
    → TermsAfter (halt_at b v x) (reads_layout (ask_at b v)) (step_at b v x) r
heard_terms (stage.Publish k) v r answer.Done here goes shares says allowed = same_terms (stage.Publish k) v _ r here refl (record { pages = refl; terms = refl; grefs = refl }) shares
heard_terms (stage.WriteState state.Closing) v r answer.Done here goes shares says allowed = λ has on. absurd (true≢false on)
heard_terms (stage.WriteState state.Closed) v r answer.Done here goes shares says allowed = λ has on. absurd (true≢false on)
heard_terms (stage.WriteState state.InitWait) v r answer.Done here goes shares says allowed = same_terms (stage.WriteState state.InitWait) v _ r here refl (record { pages = refl; terms = refl; grefs = refl }) shares
heard_terms (stage.WriteState state.Connected) v r answer.Done here goes shares says allowed = same_terms (stage.WriteState state.Connected) v _ r here refl (record { pages = refl; terms = refl; grefs = refl }) shares
heard_terms (stage.WriteState own) v r answer.Done here goes shares says allowed = absurd goes
heard_terms stage.Watch v r answer.Done here goes shares says allowed = same_terms stage.Watch v _ r here refl (record { pages = refl; terms = refl; grefs = refl }) shares
heard_terms stage.ReadState v r (answer.Key text) here goes shares says allowed = by_act (back_action v.state v.unplugged (state_read text))
  where
    by_act : (act : BackAction) → TermsAfter (action_halt act) false (acted act v) r
    by_act (action.Halt reason) = λ has on. absurd (true≢false on)
    by_act other = same_terms stage.ReadState v _ r here refl (record { pages = refl; terms = refl; grefs = refl }) shares
heard_terms (stage.ReadKey k) v r (answer.Key text) here goes shares says allowed = key_terms k text v r here goes shares
heard_terms (stage.PublishFact k) v r answer.Done here goes shares says allowed = same_terms (stage.PublishFact k) v _ r here refl (record { pages = refl; terms = refl; grefs = refl }) shares
heard_terms (stage.Publish k) v r x here goes shares says allowed = absurd allowed
heard_terms (stage.WriteState own) v r x here goes shares says allowed = absurd allowed
heard_terms stage.Watch v r x here goes shares says allowed = absurd allowed
heard_terms stage.ReadState v r x here goes shares says allowed = absurd allowed
heard_terms (stage.ReadKey k) v r x here goes shares says allowed = absurd allowed
heard_terms (stage.PublishFact k) v r x here goes shares says allowed = absurd allowed
heard_terms stage.UnmapPage v r x here goes shares says allowed = absurd (unmap_says v.pages says)
  where
    unmap_says : (pages : List Mapping) → speaks (unmap_ask pages) ≡ true → ⊥
    unmap_says [] says = true≢false (sym says)
    unmap_says (page ∷ pages) says = true≢false (sym says)
heard_terms b v r x here goes shares says allowed = absurd (true≢false (sym says))

-- settled, both share what they shared
pub settled_shares : (r y : ends.View) (v w : BackView) → y.pages ≡ r.pages → r.pages ≡ v.pages → w.pages ≡ v.pages → IsSound w → (has_terms y.stage ≡ true → is_halting w.stage ≡ false → HaveTerms y w) → BackShares (settled y.stage w) y
settled_shares r y v w kept shared same sound terms =
    let still = settled_alike y.stage w in
    record {
      pages = kept ∙ (shared ∙ (sym same ∙ sym still.pages));
      sound = settled_sound y.stage w sound;
      terms = λ has on. have_alike y w (settled y.stage w) still (terms has (settled_on y.stage w on));
    }

-- the negotiation was answered
pub spoken_shares : (v : BackView) (r : ends.View) (x : BackAnswer) → BackFits v r → BackShares v r → speaks (ask_of v) ≡ true → IsAnswer (ask_of v) x
    → let y : ends.View = ring_led (halt_of v x) (reads_layout (ask_of v)) (step_of v x) r in BackShares (settled y.stage (step_of v x)) y
spoken_shares v r x h shares says allowed =
    settled_shares r (ring_led (halt_of v x) (reads_layout (ask_of v)) (step_of v x) r) v (step_of v x) (led_pages (halt_of v x) (reads_layout (ask_of v)) (step_of v x) r) shares.pages
    (by_pages (says_closing v) refl) (back_keeps v x allowed shares.sound) (by_terms (says_closing v) refl)
  where
    by_pages : (c : Bool) → says_closing v ≡ c → (step_of v x).pages ≡ v.pages
    by_pages true is = rw is refl
    by_pages false is = rw is (spoken_pages v.stage v x (rw is at says))

    going : (b : BackBusStage) (own : BusState) → says_closing_at b own ≡ true → is_halting b ≡ false
    going stage.Rest state.Connected is = refl
    going stage.ReadState state.Connected is = refl
    going b own is = absurd (true≢false (sym is))

    by_terms : (c : Bool) → says_closing v ≡ c → TermsAfter (halt_of v x) (reads_layout (ask_of v)) (step_of v x) r
    by_terms true is = rw is (same_terms v.stage v _ r refl (going v.stage v.state (both_true v.unplugged (says_closing_at v.stage v.state) is).1) (record { pages = refl; terms = refl; grefs = refl }) shares)
    by_terms false is = rw is (heard_terms v.stage v r x refl h.goes shares (rw is at says) (rw is at allowed))

-- the negotiation alone waited
pub waited_shares : (v : BackView) (r : ends.View) (x : BackAnswer) → BackShares v r → BackShares (waited (ask_of v) v x) r
waited_shares v r x shares = by_ask (ask_of v) refl x
  where
    woken_stage : (b : BackBusStage) (path : List ℕ) → v.stage ≡ b → says_closing v ≡ false → IsAlike v (step_at b v (answer.Watched path)) × (is_halting (step_at b v (answer.Watched path)).stage ≡ false → is_halting v.stage ≡ false)
    woken_stage stage.Rest path here on = (record { pages = refl; terms = refl; grefs = refl }, λ still. ap is_halting here)
    woken_stage b path here on = (alike v, λ still. still)

    woken_shares : (path : List ℕ) → ask_of v ≡ bus_ask.Wait → BackShares (step_of v (answer.Watched path)) r
    woken_shares path e = by_test (says_closing v) refl
      where
        by_test : (c : Bool) → says_closing v ≡ c → BackShares (step_of v (answer.Watched path)) r
        by_test true is = absurd (closing_asks (rw is at e))
          where
            closing_asks : bus_ask.SetState state.Closing ≡ bus_ask.Wait → ⊥
            closing_asks same = true≢false (ap speaks same)
        by_test false on =
            let w = woken_stage v.stage path refl on in
            subst (λ (u : BackView). BackShares u r) (sym (told_at v (answer.Watched path) on))
            (record { pages = shares.pages ∙ sym w.0.pages; sound = subst IsSound (told_at v (answer.Watched path) on) (back_keeps v (answer.Watched path) (rw e tt) shares.sound); terms = λ has still. have_alike r v _ w.0 (shares.terms has (w.1 still)) })

    by_ask : (a : BackBusAsk) → ask_of v ≡ a → (x : BackAnswer) → BackShares (waited a v x) r
    by_ask bus_ask.Wait e (answer.Watched path) = woken_shares path e
    by_ask bus_ask.Wait e x = shares
    by_ask a e x = shares

-- it was asked to close
pub closed_shares : (v : BackView) (r : ends.View) → BackShares v r → BackShares (unplugged v) r
closed_shares v r shares = record { pages = by_pages (is_halting v.stage); sound = back_turn_keeps Unplugs v tt shares.sound; terms = by_terms (is_halting v.stage) refl }
  where
    by_pages : (c : Bool) → r.pages ≡ (if c then v else record v { unplugged = true }).pages
    by_pages true = shares.pages
    by_pages false = shares.pages

    by_terms : (c : Bool) → is_halting v.stage ≡ c → let u : BackView = if c then v else record v { unplugged = true } in has_terms r.stage ≡ true → is_halting u.stage ≡ false → HaveTerms r u
    by_terms true is has on = shares.terms has on
    by_terms false is has on = have_alike r v (record v { unplugged = true }) (record { pages = refl; terms = refl; grefs = refl }) (shares.terms has on)
