-- The back's end of the ring sleeps exactly where its last look found nothing.
use Rattle.std.proofs.Common.{◌≡◌, ◌∙◌, ap, sym, subst, refl, ℕ, ◌+◌, Bool, true, false, true≢false, if◌then◌else◌, List, [], ◌∷◌, ◌++◌, length, arith}
use Rattle.std.specs.Prelude.{Option, Some, None, nat_lt, ◌==◌}
use Rattle.std.proofs.lemmas.Bool.Decides.{nat_tests}
use Rattle.blk_base.specs.declared.parts.Mapping.{Mapping}
use Rattle.blk_base.specs.declared.ask.BackAsk.{BackAsk}
use Rattle.blk_base.specs.declared.ask.BackAsk.TheVariants as ask
use Rattle.blk_base.specs.declared.ask.BackAnswer.{BackAnswer}
use Rattle.blk_base.specs.declared.ask.BackAnswer.TheVariants as answer
use Rattle.ring_words.specs.Ring.{requests_of, overruns, notifies}
use Rattle.ring_words.specs.Shape.{Shape, entry_words_of}
use Rattle.back_jobs.specs.Jobs.{first_mapping}
use Rattle.blk_back.specs.declared.stage.Reply.{Reply}
use Rattle.blk_back.specs.declared.stage.BackStage.{BackStage}
use Rattle.blk_back.specs.declared.stage.BackStage.TheVariants as stage
use Rattle.blk_base.specs.declared.halt.Halt.{Halt}
use Rattle.blk_back.specs.View.{View, page_of}
use Rattle.blk_back.specs.Ask.{ask_at, loop_ask, index_ask, entry_ask, next_reply, is_led, IsAnswer}
use Rattle.blk_back.specs.Step.{unmapping_next, unbound, bound, other_pages, overrun, looked, loop_word, loop_step, fetched, may_attach, attached, attaches, halts, step_at, step_of}
use Rattle.line_text.proofs.Both.{both_true}
use Rattle.split_model.proofs.States.{halts_cases}
use Rattle.vbd_laws.specs.Waits.{Check, Awake, Stored, Fenced, fences, looks, others, writes, is_page_word, back_checks}
use Rattle.vbd_laws.proofs.WaitsChecks.{sleeps, is_fenced, others_sleep, others_unfenced, fences_sleep, writes_sleep, stored_awake, looks_awake, reads_awake, reads_unfenced, IsAwake, IsAlert, IsTold}

abbrev pub Sees : BackStage → Check → (asleep : Bool) → Type 0
Sees stage.InitWait c asleep = IsAwake c asleep
Sees stage.MapRing c asleep = IsAwake c asleep
Sees stage.Bind c asleep = IsAwake c asleep
Sees stage.Loop c asleep = IsTold c asleep × (is_fenced c ≡ false)
Sees (stage.Fetch k) c asleep = IsAlert c asleep
Sees stage.StoreEvent c asleep = IsAwake c asleep
Sees stage.EventFence c asleep = (asleep ≡ false) × (c ≡ Stored)
Sees stage.LookAgain c asleep = (asleep ≡ false) × (c ≡ Fenced)
Sees (stage.Abort m) c asleep = Unit {0}
Sees stage.UnmapRing c asleep = Unit {0}
Sees stage.ClosePort c asleep = Unit {0}
Sees stage.UnmapUnbound c asleep = Unit {0}
Sees stage.Halted c asleep = Unit {0}
Sees s c asleep = IsTold c asleep

abbrev pub Stands : View → Check → Type 0
Stands v c = Sees v.stage c v.ring.asleep

either : (b : Bool) (x y : View) (c : Check) → Stands x c → Stands y c → Stands (if b then x else y) c
either true x y c p q = p
either false x y c p q = q

either_at : (b : Bool) (x y : BackStage) (c : Check) (asleep : Bool) → Sees x c asleep → Sees y c asleep → Sees (if b then x else y) c asleep
either_at true x y c asleep p q = p
either_at false x y c asleep p q = q

-- whatever it unmaps next
given : (m : Option Mapping) (c : Check) (asleep : Bool) → Sees (unmapping_next m) c asleep
given None c asleep = tt
given (Some m) c asleep = tt

unbound_sees : (pages : List Mapping) (c : Check) (asleep : Bool) → Sees (unbound pages) c asleep
unbound_sees [] c asleep = tt
unbound_sees (page ∷ pages) c asleep = tt

bound_sees : (pages : List Mapping) (c : Check) (asleep : Bool) → Sees (bound pages) c asleep
bound_sees [] c asleep = tt
bound_sees (page ∷ pages) c asleep = tt

-- the page is the first of the ring
same_page : (n : ℕ) → (n == n) ≡ true
same_page n = grind (arith, nat_tests)

stores : (page : Mapping) (c : Check) → sleeps c ≡ false → writes (is_page_word page page 1 1) c ≡ Stored
stores page c awake = ap (λ (b : Bool). writes b c) (same_page page.number) ∙ stored_awake c awake

reads : (page : Mapping) (c : Check) (same : Bool) → (if is_page_word page page 0 0 then looks c same else others c) ≡ looks c same
reads page c same = ap (λ (b : Bool). if b then looks c same else others c) (same_page page.number)

abbrev Goes : View → View → BackAsk → BackAnswer → Check → Type 0
Goes v u a x c = Stands u (back_checks (page_of v 0) v.ring.indices.cons a x c)

-- the requests' producer was read
looked_goes : (v : View) (word : ℕ) (otherwise : View) (c : Check) → v.ring.asleep ≡ false → sleeps c ≡ false → is_fenced c ≡ false → Stands otherwise c → Stands (looked v word otherwise) c
looked_goes v word otherwise c awake sees unfenced h =
    either (overruns v.ring.indices word) (overrun v word) (if word == v.ring.indices.cons then otherwise else record v { ring = record v.ring { seen = word }; stage = stage.Loop }) c (given (first_mapping v.jobs.works) c v.ring.asleep)
    (either (word == v.ring.indices.cons) otherwise (record v { ring = record v.ring { seen = word }; stage = stage.Loop }) c h (sees ∙ sym awake, unfenced))

-- in the loop
abbrev asks : View → (sleeping none : Bool) → BackAsk
asks v sleeping none = if sleeping then ask.Wait else (if none then index_ask v 0 else entry_ask v 0)

loop_goes : (v : View) (r : Option Reply) (x : BackAnswer) (c : Check) → v.stage ≡ stage.Loop → IsTold c v.ring.asleep → is_fenced c ≡ false → IsAnswer (loop_ask v r) x → Goes v (loop_step v r x) (loop_ask v r) x c
loop_goes v (Some r) x c here is unfenced allowed = writes_sleep _ c ∙ is
loop_goes v None x c here is unfenced allowed = by_test v.ring.asleep (requests_of v.ring.indices v.ring.seen == 0) refl refl x allowed
  where
    by_test : (sleeping none : Bool) → v.ring.asleep ≡ sleeping → (requests_of v.ring.indices v.ring.seen == 0) ≡ none → (x : BackAnswer) → IsAnswer (asks v sleeping none) x → Goes v (loop_step v None x) (asks v sleeping none) x c
    by_test true none a n answer.Event allowed = subst (λ (s : BackStage). Sees s Awake false) (sym here) (refl, refl)
    by_test true none a n (answer.Watched path) allowed = subst (λ (s : BackStage). Sees s c v.ring.asleep) (sym here) (is, unfenced)
    by_test true none a n x allowed = absurd allowed
    by_test false true a n (answer.Word word) allowed =
        let last : (if is_page_word (page_of v 0) (page_of v 0) 0 0 then looks c (word == v.ring.indices.cons) else others c) ≡ Awake = reads (page_of v 0) c (word == v.ring.indices.cons) ∙ looks_awake c (word == v.ring.indices.cons) unfenced in
        subst (λ (d : Check). Stands (loop_word v word) d) (sym last)
        (subst (λ (b : Bool). Stands (if b then looked v word (record v { ring = record v.ring { seen = word }; stage = stage.StoreEvent }) else record v { ring = record v.ring { entry = word ∷ [] }; stage = stage.Fetch 1 }) Awake) (sym n)
        (looked_goes v word (record v { ring = record v.ring { seen = word }; stage = stage.StoreEvent }) Awake a refl refl (a, refl)))
    by_test false false a n (answer.Word word) allowed =
        let d : Check = back_checks (page_of v 0) v.ring.indices.cons (entry_ask v 0) (answer.Word word) c in
        subst (λ (b : Bool). Stands (if b then looked v word (record v { ring = record v.ring { seen = word }; stage = stage.StoreEvent }) else record v { ring = record v.ring { entry = word ∷ [] }; stage = stage.Fetch 1 }) d) (sym n)
        (a, reads_awake _ _ c (is ∙ a) unfenced, reads_unfenced _ _ c unfenced)
    by_test false true a n x allowed = absurd allowed
    by_test false false a n x allowed = absurd allowed

-- it looks for the last time
last_goes : (v : View) (word : ℕ) (c : Check) → v.ring.asleep ≡ false → c ≡ Fenced
    → Stands (looked v word (record v { ring = record v.ring { seen = word; asleep = true }; stage = stage.Loop })) (if is_page_word (page_of v 0) (page_of v 0) 0 0 then looks c (word == v.ring.indices.cons) else others c)
last_goes v word c awake is =
    subst (λ (d : Check). Stands (looked v word (record v { ring = record v.ring { seen = word; asleep = true }; stage = stage.Loop })) d) (sym (reads (page_of v 0) c (word == v.ring.indices.cons) ∙ ap (λ (d : Check). looks d (word == v.ring.indices.cons)) is))
    (either (overruns v.ring.indices word) (overrun v word) _ _ (given (first_mapping v.jobs.works) _ v.ring.asleep) (by_same (word == v.ring.indices.cons)))
  where
    by_same : (same : Bool) → Stands (if same then record v { ring = record v.ring { seen = word; asleep = true }; stage = stage.Loop } else record v { ring = record v.ring { seen = word }; stage = stage.Loop }) (looks Fenced same)
    by_same true = (refl, refl)
    by_same false = (sym awake, refl)

-- while it waits for the terms of its front
waits_terms : (v : View) (x : BackAnswer) (c : Check) → v.stage ≡ stage.InitWait → IsAwake c v.ring.asleep → IsAnswer ask.Wait x → Goes v v ask.Wait x c
waits_terms v answer.Event c here is allowed = subst (λ (s : BackStage). Sees s Awake v.ring.asleep) (sym here) (is.0, refl)
waits_terms v (answer.Watched path) c here is allowed = subst (λ (s : BackStage). Sees s c v.ring.asleep) (sym here) is
waits_terms v x c here is allowed = absurd allowed

-- a stage that no answer leaves
stays : (s : BackStage) (v : View) (c : Check) → v.stage ≡ s → Sees s c v.ring.asleep → Stands v c
stays s v c here is = subst (λ (t : BackStage). Sees t c v.ring.asleep) (sym here) is

sees_at : (s : BackStage) (v : View) (x : BackAnswer) (c : Check) → v.stage ≡ s → Sees s c v.ring.asleep → IsAnswer (ask_at s v) x → Goes v (step_at s v x) (ask_at s v) x c
sees_at stage.InitWait v x c here is allowed = waits_terms v x c here is allowed
sees_at stage.MapRing v (answer.Mapped m) c here is allowed =
    let up : IsAwake (others c) v.ring.asleep = (is.0, others_sleep c ∙ is.1) in
    either_at (nat_lt (length v.pages + 1) (length v.grefs)) stage.MapRing stage.Bind (others c) v.ring.asleep up up
sees_at stage.MapRing v (answer.MapRefused status) c here is allowed = unbound_sees v.pages (others c) v.ring.asleep
sees_at stage.Bind v answer.Done c here is allowed = (others_sleep c ∙ (is.1 ∙ sym is.0), others_unfenced c)
sees_at stage.Bind v answer.BindRefused c here is allowed = unbound_sees v.pages (others c) v.ring.asleep
sees_at stage.Loop v x c here is allowed = loop_goes v (next_reply v) x c here is.0 is.1 allowed
sees_at (stage.Fetch k) v (answer.Word word) c here is allowed =
    let d : Check = back_checks (page_of v 0) v.ring.indices.cons (entry_ask v k) (answer.Word word) c in
    let alert : IsAlert d v.ring.asleep = (is.0, reads_awake _ _ c is.1 is.2, reads_unfenced _ _ c is.2) in
    either (k + 1 == entry_words_of v.shape.abi) (fetched v (v.ring.entry ++ word ∷ [])) (record v { ring = record v.ring { entry = v.ring.entry ++ word ∷ [] }; stage = stage.Fetch (k + 1) }) d (alert.1 ∙ sym alert.0, alert.2) alert
sees_at (stage.ReplyHigh r) v x c here is allowed = writes_sleep _ c ∙ is
sees_at (stage.ReplyLast r) v x c here is allowed = writes_sleep _ c ∙ is
sees_at (stage.Producer r) v x c here is allowed = others_sleep c ∙ is
sees_at (stage.ProducerFence old) v x c here is allowed = fences_sleep c ∙ is
sees_at (stage.ResponseEvent old) v (answer.Word event) c here is allowed =
    either_at (notifies old v.ring.indices.prod event) stage.Send stage.Loop (others c) v.ring.asleep (others_sleep c ∙ is) (others_sleep c ∙ is, others_unfenced c)
sees_at stage.Send v x c here is allowed = (others_sleep c ∙ is, others_unfenced c)
sees_at stage.StoreEvent v x c here is allowed = (is.0, stores (page_of v 0) c is.1)
sees_at stage.EventFence v x c here is allowed = (is.0, ap fences is.1)
sees_at stage.LookAgain v (answer.Word word) c here is allowed = last_goes v word c is.0 is.1
sees_at (stage.Abort m) v x c here is allowed = given (first_mapping v.jobs.works) _ v.ring.asleep
sees_at stage.UnmapRing v x c here is allowed = bound_sees (other_pages v.pages) _ v.ring.asleep
sees_at stage.ClosePort v x c here is allowed = tt
sees_at stage.UnmapUnbound v x c here is allowed = unbound_sees (other_pages v.pages) _ v.ring.asleep
sees_at stage.Halted v x c here is allowed = stays stage.Halted v _ here tt
sees_at s v x c here is allowed = absurd allowed

-- a move of the ring's end
pub sees_step : (v : View) (x : BackAnswer) (c : Check) → Stands v c → IsAnswer (ask_at v.stage v) x → Stands (step_of v x) (back_checks (page_of v 0) v.ring.indices.cons (ask_at v.stage v) x c)
sees_step v x c is allowed = sees_at v.stage v x c refl is allowed

-- it halts, or takes the terms of its front
pub sees_halts : (why : Halt) (v : View) (c : Check) → Stands v c → Stands (halts why v) c
sees_halts why v c is = halts_cases (λ (u : View). Stands u c) why v (λ early. unbound_sees v.pages c v.ring.asleep) (λ here. given (first_mapping v.jobs.works) c v.ring.asleep) is

led_at : (s : BackStage) (c : Check) (asleep : Bool) → is_led s ≡ true → Sees s c asleep → IsAwake c asleep
led_at stage.InitWait c asleep led is = is
led_at s c asleep led is = absurd (true≢false (sym led))

pub sees_attaches : (shape : Shape) (grefs : List ℕ) (port : ℕ) (v : View) (c : Check) → Stands v c → Stands (attaches shape grefs port v) c
sees_attaches shape grefs port v c is = by_test (may_attach shape grefs v) refl
  where
    by_test : (may : Bool) → may_attach shape grefs v ≡ may → Stands (if may then attached shape grefs port v else v) c
    by_test true may = led_at v.stage c v.ring.asleep (both_true (is_led v.stage) _ (both_true _ _ may).0).0 is
    by_test false may = is
