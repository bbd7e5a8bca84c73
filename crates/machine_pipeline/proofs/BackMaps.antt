-- The back waits for the terms of its front, maps the pages of the ring, and is bound to the front's port.
use Rattle.std.proofs.Common.{◌≡◌, ◌≢◌, ℕ, ◌+◌, ◌-◌, ◌*◌, ◌/◌, ◌%◌, ◌^◌, ◌<◌, ◌≤◌, if◌then◌else◌, Bool, true, false, List, [], ◌∷◌, ◌++◌, length, refl, ap, sym, subst, ◌∙◌, inl, inr, arith, length-set, length-append}
use Rattle.std.specs.Prelude.{All, Option, Some, None, Result, Ok, nat_lt, slice_index_or}
use Rattle.std.proofs.lemmas.Option.{none-some}
use Rattle.std.proofs.lemmas.Bool.{false≢true, cases_eq}
use Rattle.std.proofs.lemmas.Bool.Decides.{nat_tests}
use Rattle.std.proofs.lemmas.List.{append-nil, append_assoc, get_or_append_left, get_or-append-add}
use Rattle.std.proofs.lemmas.List.FromFn.{length-range_with_len, get_or-range_with_len}
use Rattle.blk_base.specs.Options.{Options}
use Rattle.blk_base.specs.declared.parts.Mapping.{Mapping}
use Rattle.blk_base.specs.declared.parts.End.TheVariants as end
use Rattle.blk_base.specs.declared.parts.Mode.TheVariants.{ReadWrite}
use Rattle.blk_base.specs.declared.ask.BackAnswer.{BackAnswer}
use Rattle.blk_base.specs.declared.ask.BackAnswer.TheVariants as answer
use Rattle.blk_base.specs.declared.moves.BackMover.TheVariants as back_mover
use Rattle.blk_base.specs.declared.moves.Mover.TheVariants as mover
use Rattle.blk_base.specs.declared.moves.Move.{Move as Shown}
use Rattle.blk_base.specs.declared.moves.Move.TheVariants as moves
use Rattle.schedule_text.specs.declared.line.Line.TheVariants.{Move}
use Rattle.pipeline_laws.specs.Pipeline.{Pipeline}
use Rattle.ring_words.specs.Shape.{Shape}
use Rattle.grant_table.specs.declared.held.Held.{Held}
use Rattle.grant_table.specs.declared.entry.MapRefusal.{MapRefusal}
use Rattle.grant_table.specs.Entry.{mapped_entry}
use Rattle.grant_table.specs.Table.{entry_word0, entry_word1, verdict_at, next_mapping, with_entry_word0}
use Rattle.event_channel.specs.Channels.{ChannelState, state_of, bound, taken}
use Rattle.event_channel.specs.declared.channels.PortState.{PortState}
use Rattle.event_channel.specs.declared.channels.PortState.TheVariants.{Unbound}
use Rattle.hypervisor.specs.Hypervisor.{Hypervisor}
use Rattle.hypervisor.specs.Act.{map_act, bind_act, back_watched, watch_next, watch_taken}
use Rattle.back_jobs.specs.Work.{Work}
use Rattle.back_jobs.specs.Hands.{hands_in}
use Rattle.blk_front.specs.declared.request.Request.{Request}
use Rattle.blk_front.specs.declared.stage.FrontStage.{FrontStage}
use Rattle.blk_front.specs.Request.{frame_at}
use Rattle.blk_front.specs.Submit.{is_connected}
use Rattle.blk_back.specs.declared.stage.BackStage.{BackStage}
use Rattle.blk_back.specs.declared.stage.BackStage.TheVariants as stage
use Rattle.blk_back.specs.View.{no_page}
use Rattle.blk_back.specs.Ask.{next_gref}
use Rattle.blk_back.specs.Step.{step_at}
use Rattle.blk_back.specs.Hands.{aborted}
use Rattle.split_model.specs.World.{World}
use Rattle.split_model.specs.Shown.{back_lines, halt_lines}
use Rattle.machine_pipeline.proofs.Flow.{Flow, frames_of, has_terms, is_back_arming, is_bound_back, is_fetching, reply_at, reply_count, may_back_sleep}
use Rattle.machine_pipeline.proofs.Holds.{Holds, BackAt, PagesAt, IsPooled, PortsAt, IsGranted, IsFrontSleep, flags_with, AreRingWords, AreEntries, AreMapped, BackSends}
use Rattle.machine_pipeline.proofs.Turns.{BackGoes, Goes, silent, goes_by}
use Rattle.machine_pipeline.proofs.Slots.{few_pages}
use Rattle.machine_pipeline.proofs.Kept.{SameFrame, SameEntry, SameGrants, other_frame, other_entry, slots_kept, awake_back, sleep_sent, sleep_kept, sleep_turned}
use Rattle.machine_pipeline.proofs.ReadsKept.{stations_elsewhere}
use Rattle.machine_pipeline.proofs.Frames.{is_submitted}
use Rattle.machine_pipeline.proofs.Lists.{all_at, all_from}
use Rattle.machine_pipeline.proofs.Data.{pooled_at}
use Rattle.machine_pipeline.proofs.Mapped.{mapped_more, mapped_beside}
use Rattle.machine_pipeline.proofs.Keyed.{goes_keyed}
use Rattle.machine_pipeline.proofs.BackStill.{BackStands, ending_submitted, revoking_ends, frames_elsewhere, told_elsewhere, IsRingless, StationsOf}
use Rattle.machine_pipeline.proofs.BackQuiet.{goes_still, slots_at}
use Rattle.machine_pipeline.proofs.BackWrites.{begun, named_to, granted_to}
use Rattle.machine_pipeline.proofs.BackLoop.{ActGoes, stays}

maps_ring : (pages : List ℕ) (page : ℕ) → page < 16 → entry_word0 pages (8 + page) ≡ 1 → entry_word1 pages (8 + page) ≡ 2 + page → verdict_at pages (8 + page) ReadWrite ≡ Ok (2 + page)
maps_ring pages page few flags frame =
    let reached : nat_lt 1023 (8 + page) ≡ false = grind (arith, nat_tests) in
    let low : nat_lt (2 + page) 2 ≡ false = grind (arith, nat_tests) in
    let high : nat_lt 1023 (2 + page) ≡ false = grind (arith, nat_tests) in
    rw (flags, frame, reached, low, high) refl

-- the entries of a request stay as they are where a mapping of a page of the ring is made
granted_still : {series : List Request} (pushed : ℕ) (old new : List ℕ) (live : List Held) (h : Held) (s : FrontStage) (r : Request)
    → ((place : ℕ) → place < frames_of r → h.mapping.gref ≢ frame_at r place + 6)
    → SameGrants old new r
    → IsGranted series pushed old live s r
    → IsGranted series pushed new (live ++ h ∷ []) s r
granted_still pushed old new live h s r apart same was = record {
  named = λ le place lt. let entry = same place lt in entry.frame ∙ was.named le place lt;
  named_next = λ e place t lt. let entry = same place lt in entry.frame ∙ was.named_next e place t lt;
  flags = λ le place lt. let entry = same place lt in entry.flags
      ∙ (was.flags le place lt ∙ ap (λ (n : ℕ). flags_with r place n) (sym (mapped_beside live h (frame_at r place + 6) (apart place lt))));
  flags_next = λ e place t lt. let entry = same place lt in entry.flags ∙ was.flags_next e place t lt;
}

-- what a write of an entry of the ring leaves of a request's
entry_beside : (pages : List ℕ) (gref value : ℕ) (r : Request) → gref < 24 → All IsPooled r.frames.items → SameGrants pages (with_entry_word0 pages gref value) r
entry_beside pages gref value r low all place lt = let pooled = pooled_at r all place in
    other_entry pages gref (frame_at r place + 6) value (omega arith) (omega (arith, pooled.1)) (omega (arith, pooled.0))

-- a stage before the port is bound
pub record IsSetting (b : BackStage) : Type 0 where
  pub terms : has_terms b ≡ true
  pub fetching : is_fetching b ≡ false
  pub replying : reply_at b ≡ None
  pub unarmed : is_back_arming b ≡ false
  pub unbound : is_bound_back b ≡ false
  pub given : aborted b ≡ []

back_at_setting : (b : BackStage) (shape : Shape) (start fetched back_seen replied : ℕ) (series : List Request) (works : List Work) (entry : List ℕ) → IsSetting b → fetched ≡ 0 → BackAt shape start fetched back_seen replied series works entry b
back_at_setting stage.MapRing shape start fetched back_seen replied series works entry i none = none
back_at_setting stage.Bind shape start fetched back_seen replied series works entry i none = none
back_at_setting stage.InitWait shape start fetched back_seen replied series works entry i none = none
back_at_setting b shape start fetched back_seen replied series works entry i none = absurd (cc)

-- one page more is mapped
pages_more : {X : Type 0} (f : Mapping → X) (value : ℕ → X) (pages : List Mapping) (m : Mapping) → ((page : ℕ) → page < length pages → f (slice_index_or pages page no_page) ≡ value page)
    → f m ≡ value (length pages) → (page : ℕ) → page < length (pages ++ m ∷ []) → f (slice_index_or (pages ++ m ∷ []) page no_page) ≡ value page
pages_more f value pages m all last page within = elim (cases_eq page (length pages)) [
  | inl e ↦
      let at : slice_index_or (pages ++ m ∷ []) (length pages + 0) no_page ≡ m = get_or-append-add pages (m ∷ []) 0 no_page in
      let end : length pages + 0 ≡ length pages = omega arith in
      rw (e, rw end at at) last
  | inr apart ↦
      let before : page < length pages = omega (arith, length-append pages (m ∷ [])) in
      rw (get_or_append_left pages (m ∷ []) no_page page before) (all page before)
]

-- the next page of the ring is mapped
module _ (config : Options) (w : World) (g : Flow) (d : Pipeline) (p : BackStands config w g d stage.MapRing) (named : next_gref w.back ≡ 8 + length w.back.pages) where
  abbrev gref : ℕ
  gref = next_gref w.back

  low : gref < 24
  low = let few = few_pages g.shape.order p.holds.shaped.narrow in let fewer = p.holds.paged.mapped in omega (arith, named)

  abbrev value : ℕ
  value = mapped_entry (entry_word0 w.under.pages gref) ReadWrite

  abbrev new : List ℕ
  new = with_entry_word0 w.under.pages gref value

  abbrev mapping : Mapping
  mapping = next_mapping w.under.grants gref ReadWrite

  abbrev made : Held
  made = record { mapping = mapping; frame = 2 + length w.back.pages }

  abbrev shown : Shown
  shown = moves.Map back_mover.Back gref ReadWrite (w.under.grants.made + 1) (2 + length w.back.pages)

  abbrev mapped_at : BackStage → World
  mapped_at s = record {
    front = w.front;
    back = record w.back { pages = w.back.pages ++ mapping ∷ []; stage = s; told = None };
    under = record w.under { grants = record { made = w.under.grants.made + 1; live = w.under.grants.live ++ made ∷ [] }; pages = new };
  }

  more : length (w.back.pages ++ mapping ∷ []) ≡ length w.back.pages + 1
  more = length-append w.back.pages (mapping ∷ [])

  -- what the map of a page leaves
  others : (f : ℕ) → f ≢ 0 → SameFrame w.under.pages new f
  others f apart = other_frame w.under.pages (gref / 512) (2 * (gref % 512)) value f (omega (arith, low)) (omega (arith, low))

  pool : (f : ℕ) → 18 ≤ f → f < 1018 → SameFrame w.under.pages new f
  pool f from to = others f (omega arith)

  beside : (page : ℕ) → page < 2 ^ g.shape.order → length (w.back.pages ++ mapping ∷ []) ≤ page → SameEntry w.under.pages new (8 + page)
  beside page few from =
      let all = few_pages g.shape.order p.holds.shaped.narrow in
      other_entry w.under.pages gref (8 + page) value (omega (arith, low)) (omega arith) (omega (arith, named, more))

  counted : (b' : BackStage) → IsSetting b' → length w.back.jobs.works + reply_count (reply_at b') + g.replied ≡ g.fetched
  counted b' i = rw i.replying p.holds.counted

  stations : (b' : BackStage) → IsSetting b' → StationsOf config w g d (is_fetching b') (reply_at b') w.back.jobs.works new
  stations b' i = rw (i.fetching, i.replying) (stations_elsewhere _ _ _ _ _ _ _ _ _ _ _ _ new _ _ p.holds.submitted pool p.holds.stations)

  ring : AreRingWords g.shape.order g.start g.pushed g.replied new w.front.stage (length (w.back.pages ++ mapping ∷ []))
  ring =
      let all = named_to w.front.stage (2 ^ g.shape.order) p.connected in
      let granted = granted_to w.front.stage (2 ^ g.shape.order) p.connected in
      record {
        begun = begun g.start new w.front.stage p.connected;
        requests = λ t. others 2 (omega arith) 0 (omega arith) ∙ p.holds.ring.requests t;
        responses = λ t. others 2 (omega arith) 2 (omega arith) ∙ p.holds.ring.responses t;
        named = λ page lt from. (beside page (omega arith) from).frame ∙ p.holds.ring.named page lt (omega (arith, more));
        granted = λ page lt from. (beside page (omega arith) from).flags ∙ p.holds.ring.granted page lt (omega (arith, more));
      }

  entries : AreEntries g.series g.pushed new (w.under.grants.live ++ made ∷ []) w.front.stage w.front.ending w.front.requests
  entries = record {
    each = all_from (IsGranted g.series g.pushed new (w.under.grants.live ++ made ∷ []) w.front.stage) w.front.requests (λ k r at.
        let is = is_submitted config w g d w.front.stage stage.MapRing p.holds k r at in
        granted_still g.pushed w.under.pages new w.under.grants.live made w.front.stage r (λ place lt. omega (arith, (pooled_at r is.frames place).0, low))
        (entry_beside w.under.pages gref value r low is.frames)
        (all_at (IsGranted g.series g.pushed w.under.pages w.under.grants.live w.front.stage) w.front.requests k r p.holds.entries.each at));
    ending = λ e at place from lt.
        let is = ending_submitted config w g d w.front.stage stage.MapRing e p.holds (revoking_ends w.front.stage w.front.ending e at) in
        (entry_beside w.under.pages gref value e.request low is.frames place lt).flags ∙ p.holds.entries.ending e at place from lt;
  }

  hands : (b' : BackStage) → IsSetting b' → AreMapped (w.under.grants.live ++ made ∷ []) (aborted b' ++ (hands_in w.back.jobs.works ++ (w.back.pages ++ mapping ∷ [])))
  hands b' i = rw i.given (mapped_more _ (hands_in w.back.jobs.works ++ w.back.pages) (hands_in w.back.jobs.works ++ (w.back.pages ++ mapping ∷ [])) mapping _ (omega (arith, named))
      (record {
        front = hands_in w.back.jobs.works ++ w.back.pages;
        rest = [];
        without = sym (append-nil (hands_in w.back.jobs.works ++ w.back.pages));
        with_it = sym (append_assoc (hands_in w.back.jobs.works) w.back.pages (mapping ∷ []));
      }) p.holds.mapped)

  maps : (verdict : Result ℕ MapRefusal) (b' : BackStage)
      → verdict ≡ Ok (2 + length w.back.pages)
      → (if nat_lt (length w.back.pages + 1) (length w.back.grefs) then stage.MapRing else stage.Bind) ≡ b'
      → IsSetting b'
      → PagesAt b' g.shape.order (length w.back.pages + 1)
      → ActGoes config w d (step_at stage.MapRing w.back) (Some (map_act w.under back_mover.Back (next_gref w.back) ReadWrite verdict))
  maps verdict b' e stepped i mapped = subst (λ (x : Result ℕ MapRefusal). ActGoes config w d (step_at stage.MapRing w.back) (Some (map_act w.under back_mover.Back (next_gref w.back) ReadWrite x))) (sym e)
      (subst (λ (s : BackStage). Goes config (Move shown ∷ back_lines w.back.told (answer.Mapped mapping) ++ halt_lines w.back.halted w.back.halted) (mapped_at s) d) (sym stepped)
      (goes_by {g = g} (silent shown w.back.told w.back.halted (answer.Mapped mapping) d p.untold p.holds.unhalted)
      (assumption (
        stations b' i,
        counted b' i,
        entries,
        ring,
        hands b' i,
        back_at_setting b' g.shape g.start g.fetched g.back_seen g.replied g.series w.back.jobs.works w.back.ring.entry i p.holds.back_at,
        length-set w.under.pages (gref / 512 * 1024 + 2 * (gref % 512)) value ∙ p.holds.memory,
        slots_at _ _ _ _ _ _ _ _ new _ _ b' (λ rep t k lt. absurd (none-some rep (sym i.replying ∙ t)))
            (slots_kept _ _ _ _ _ _ _ _ _ new _ _ p.holds.shaped.narrow (λ f v from to within after. others f (omega arith) v within) p.holds.slots),
        frames_elsewhere config w g d w.front.stage stage.MapRing new p.holds pool,
        told_elsewhere config w g d w.front.stage stage.MapRing new p.holds pool,
        p.holds.paged.shaped refl,
        p.holds.paged.entries_are refl,
        p.holds.paged.grefs_are refl,
        p.holds.paged.port_is refl,
        subst (PagesAt b' g.shape.order) (sym more) mapped,
        pages_more (λ (x : Mapping). x.gref) (λ (page : ℕ). 8 + page) w.back.pages mapping p.holds.paged.gref named,
        pages_more (λ (x : Mapping). x.mode) (λ (page : ℕ). ReadWrite) w.back.pages mapping p.holds.paged.mode refl,
        sleep_sent (BackSends b' g.replied g.taken) (λ m. m) (λ t s. absurd s) (sleep_kept (others 2 (omega arith) 3 (omega arith)) p.holds.front_sleep),
        sleep_turned (is_back_arming b') (may_back_sleep b') (λ t. absurd (false≢true (sym i.unarmed ∙ t))) (λ t. p.holds.back_sleep.may refl)
            (sleep_kept (others 2 (omega arith) 1 (omega arith)) p.holds.back_sleep),
        subst (λ (bound : Bool). PortsAt g.before (is_connected w.front.stage) bound w.under.channels.made w.under.channels.ports) (sym i.unbound) p.holds.ports,
      ))))

-- whether another page is to be mapped
maps_by : (config : Options) (w : World) (g : Flow) (d : Pipeline) (more : Bool) → BackStands config w g d stage.MapRing → (length w.back.grefs ≡ 2 ^ g.shape.order) → next_gref w.back ≡ 8 + length w.back.pages → verdict_at w.under.pages (next_gref w.back) ReadWrite ≡ Ok (2 + length w.back.pages) → nat_lt (length w.back.pages + 1) (length w.back.grefs) ≡ more
    → BackGoes config w d stage.MapRing
maps_by config w g d true p all named verdict further =
    let lt : length w.back.pages + 1 < length w.back.grefs = grind (arith, nat_tests) in
    maps config w g d p named (verdict_at w.under.pages (next_gref w.back) ReadWrite) stage.MapRing verdict (rw further refl)
    (record { terms = refl; fetching = refl; replying = refl; unarmed = refl; unbound = refl; given = refl }) (omega arith)
maps_by config w g d false p all named verdict further =
    let last : length w.back.pages + 1 ≡ 2 ^ g.shape.order = grind (arith, nat_tests, p.holds.paged.mapped) in
    maps config w g d p named (verdict_at w.under.pages (next_gref w.back) ReadWrite) stage.Bind verdict (rw further refl)
    (record { terms = refl; fetching = refl; replying = refl; unarmed = refl; unbound = refl; given = refl }) last

pub goes_map_ring : (config : Options) (w : World) (g : Flow) (d : Pipeline) → BackStands config w g d stage.MapRing → BackGoes config w d stage.MapRing
goes_map_ring config w g d p =
    let h : Holds config w g d w.front.stage stage.MapRing = p.holds in
    let fewer : length w.back.pages < 2 ^ g.shape.order = h.paged.mapped in
    let few = few_pages g.shape.order h.shaped.narrow in
    let all : length w.back.grefs ≡ 2 ^ g.shape.order = ap length (h.paged.grefs_are refl) ∙ length-range_with_len 8 (2 ^ g.shape.order) in
    let named : next_gref w.back ≡ 8 + length w.back.pages = ap (λ (l : List ℕ). slice_index_or l (length w.back.pages) 0) (h.paged.grefs_are refl) ∙ get_or-range_with_len 8 (2 ^ g.shape.order) (length w.back.pages) 0 fewer in
    let flags = h.ring.granted (length w.back.pages) (let bound = granted_to w.front.stage (2 ^ g.shape.order) p.connected in omega arith) (omega arith) in
    let frame = h.ring.named (length w.back.pages) (let bound = named_to w.front.stage (2 ^ g.shape.order) p.connected in omega arith) (omega arith) in
    let verdict : verdict_at w.under.pages (next_gref w.back) ReadWrite ≡ Ok (2 + length w.back.pages) = ap (λ (n : ℕ). verdict_at w.under.pages n ReadWrite) named ∙ maps_ring w.under.pages (length w.back.pages) (omega arith) flags frame in
    maps_by config w g d (nat_lt (length w.back.pages + 1) (length w.back.grefs)) p all named verdict refl

-- the front's one port of this epoch waits to be bound
own_place : (before : ℕ) → before + 1 - (before + 1 - 1) - 1 ≡ 0
own_place before = omega arith

own_made : (before : ℕ) → nat_lt (before + 1 - 1) (before + 1) ≡ true
own_made before = grind (arith, nat_tests)

waits_bound : (before : ℕ) (c : ChannelState) → PortsAt before true false c.made c.ports → state_of c (before + 1) ≡ Unbound
waits_bound before c at = rw (at.0, at.1) (rw (own_made before, own_place before) refl)

is_bound_now : (before : ℕ) (c : ChannelState) → PortsAt before true false c.made c.ports → PortsAt before true true (bound c (before + 1)).made (bound c (before + 1)).ports
is_bound_now before c at = (at.0, rw (at.0, at.1) (rw (own_place before) refl))

binds : (config : Options) (w : World) (g : Flow) (d : Pipeline) (port : ℕ) (state : PortState) → BackStands config w g d stage.Bind → port ≡ g.before + 1 → state ≡ Unbound → ActGoes config w d (step_at stage.Bind w.back) (Some (bind_act w.under port state))
binds config w g d port state p one e =
    let h : Holds config w g d w.front.stage stage.Bind = p.holds in
    let same : (f : ℕ) → IsRingless f → SameFrame w.under.pages w.under.pages f = λ f apart k lt. refl in
    let ports : PortsAt g.before (is_connected w.front.stage) true (bound w.under.channels (g.before + 1)).made (bound w.under.channels (g.before + 1)).ports =
    rw p.connected (is_bound_now g.before w.under.channels (rw p.connected at h.ports)) in
    subst (λ (n : ℕ). ActGoes config w d (step_at stage.Bind w.back) (Some (bind_act w.under n state))) (sym one)
    (subst (λ (x : PortState). ActGoes config w d (step_at stage.Bind w.back) (Some (bind_act w.under (g.before + 1) x))) (sym e)
    (goes_still config w g d stage.Bind stage.Loop w.back w.under.pages (bound w.under.channels (g.before + 1)) g.back_seen _ _ p (assumption (
      same,
      slots_at _ _ _ _ _ _ _ _ _ _ stage.Bind stage.Loop (λ rep t i lt. absurd (none-some rep t)) h.slots,
      sleep_sent (BackSends stage.Loop g.replied g.taken) (λ m. m) (λ t s. absurd s) h.front_sleep,
      sleep_turned (is_back_arming stage.Loop) (may_back_sleep stage.Loop) (λ t. t) (λ t. h.back_sleep.may refl) h.back_sleep,
      ports,
    ))))

pub goes_bind : (config : Options) (w : World) (g : Flow) (d : Pipeline) → BackStands config w g d stage.Bind → BackGoes config w d stage.Bind
goes_bind config w g d p =
    let h : Holds config w g d w.front.stage stage.Bind = p.holds in
    binds config w g d w.back.ring.port (state_of w.under.channels w.back.ring.port) p (h.paged.port_is refl)
    (ap (state_of w.under.channels) (h.paged.port_is refl) ∙ waits_bound g.before w.under.channels (rw p.connected at h.ports))

-- an event or a watch leaves a back that waits for terms as it is
goes_waited : (config : Options) (w : World) (g : Flow) (d : Pipeline) (shown : Shown) (given : BackAnswer) (c : ChannelState)
    → c.front_pending ≡ w.under.channels.front_pending
    → c.made ≡ w.under.channels.made
    → c.ports ≡ w.under.channels.ports
    → BackStands config w g d stage.InitWait
    → Goes config (Move shown ∷ back_lines w.back.told given ++ halt_lines w.back.halted w.back.halted) (record { front = w.front; back = record w.back { told = None }; under = (let u : Hypervisor = w.under in record u { channels = c }) }) d
goes_waited config w g d shown given c pending made ports p =
    let h : Holds config w g d w.front.stage stage.InitWait = p.holds in
    let awake : w.back.ring.asleep ≡ false = h.back_sleep.may refl in
    let same : (f : ℕ) → IsRingless f → SameFrame w.under.pages w.under.pages f = λ f apart k lt. refl in
    let sleeps : IsFrontSleep g.start g.taken g.replied w.under.pages w.front.ring.asleep c.front_pending w.front.stage stage.InitWait = rw pending h.front_sleep in
    let ports : PortsAt g.before (is_connected w.front.stage) false c.made c.ports = rw (made, ports) h.ports in
    subst (λ (s : BackStage). Goes config (Move shown ∷ back_lines w.back.told given ++ halt_lines w.back.halted w.back.halted) (record { front = w.front; back = record w.back { stage = s; told = None }; under = (let u : Hypervisor = w.under in record u { channels = c }) }) d) (sym p.at)
    (goes_still config w g d stage.InitWait stage.InitWait w.back w.under.pages c g.back_seen shown given p
    (assumption (same, sleeps, ports, awake_back g.start g.fetched g.pushed w.under.pages w.back.ring.asleep c.back_pending w.front.stage stage.InitWait awake refl)))

waits_on : (config : Options) (w : World) (g : Flow) (d : Pipeline) (pending : Bool) (next : Option (List ℕ)) → BackStands config w g d stage.InitWait
    → ActGoes config w d (step_at stage.InitWait w.back) (if pending then Some (record { answer = answer.Event; under = (let u : Hypervisor = w.under in record u { channels = taken w.under.channels end.Back }); shown = moves.Event mover.Back }) else back_watched w.under next)
waits_on config w g d true next p = goes_waited config w g d (moves.Event mover.Back) answer.Event (taken w.under.channels end.Back) refl refl refl p
waits_on config w g d false None p = stays config w g d stage.InitWait p
waits_on config w g d false (Some path) p =
    let left : Hypervisor = watch_taken w.under end.Back in
    goes_keyed config _ _ d left.keys (goes_waited config w g d (moves.Watched mover.Back path) (answer.Watched path) w.under.channels refl refl refl p)

pub goes_init_wait : (config : Options) (w : World) (g : Flow) (d : Pipeline) → BackStands config w g d stage.InitWait → BackGoes config w d stage.InitWait
goes_init_wait config w g d p = waits_on config w g d w.under.channels.back_pending (watch_next w.under end.Back) p
