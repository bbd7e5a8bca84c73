-- The front finds the request that a response names.
use Rattle.std.proofs.Common.{◌≡◌, ℕ, ◌+◌, ◌-◌, ◌*◌, ◌/◌, ◌^◌, ◌<◌, ◌==◌, ◌⊎◌, inl, inr, true, [], ◌∷◌, length, take, ap, sym, ◌∙◌, subst, arith}
use Rattle.std.specs.Prelude.{Option, Some, None, slice_get, option_map, position, Result, Ok, Err}
use Rattle.std.specs.List.{list_any}
use Rattle.std.proofs.lemmas.Option.{none-some, slice_get_within}
use Rattle.std.proofs.lemmas.Bool.Decides.{nat_tests}
use Rattle.blk_base.specs.Options.{Options}
use Rattle.blk_layout.specs.declared.response.Response.{Response}
use Rattle.blk_layout.specs.Response.{response_of, response_with, status_of}
use Rattle.blk_base.specs.declared.operation.Status.{Status}
use Rattle.blk_layout.proofs.ResponseLaid.{response_back}
use Rattle.pipeline_laws.specs.Pipeline.{Pipeline}
use Rattle.pipeline_laws.specs.Station.{Replied, is_finished}
use Rattle.blk_front.specs.declared.request.Request.{Request}
use Rattle.blk_front.specs.declared.stage.Ending.{Ending}
use Rattle.blk_front.specs.declared.stage.FrontStage.{FrontStage}
use Rattle.blk_front.specs.Step.{found_at, issued}
use Rattle.blk_front.specs.View.{View}
use Rattle.blk_back.specs.declared.stage.Reply.{Reply}
use Rattle.blk_back.specs.Ask.{response_word}
use Rattle.split_model.specs.World.{World}
use Rattle.machine_pipeline.proofs.Flow.{Flow, ending_at}
use Rattle.machine_pipeline.proofs.Series.{among_apart, among_more}
use Rattle.machine_pipeline.proofs.Holds.{Holds, IsReply}
use Rattle.machine_pipeline.proofs.Lists.{place_of_any, same_number}
use Rattle.machine_pipeline.proofs.Removals.{taken_was, taken_has, found_somewhere}
use Rattle.machine_pipeline.proofs.Lists.{found_at as placed_at}
use Rattle.machine_pipeline.proofs.Stations.{StandsAt}
use Rattle.std.proofs.lemmas.Bool.{cases_lt}

-- the response as its three words have it
abbrev pub response_for : Reply → Response
response_for rep = record { id = rep.id; op = rep.op; status = rep.status }

pub read_back : (rep : Reply) (low high last : ℕ) → rep.op < 2 ^ 8 → low ≡ response_word rep 0 → high ≡ response_word rep 1 → last ≡ response_word rep 2 → response_of (low ∷ high ∷ last ∷ []) ≡ Ok (response_for rep)
read_back rep low high last op e f g = rw (e, f, g) (response_back (response_for rep) op)

-- its id is that of its first two words
abbrev id_of : Result Response ℕ → ℕ
id_of (Ok r) = r.id
id_of (Err word) = 0

abbrev IsOkay : Result Response ℕ → Type 0
IsOkay (Ok r) = Unit {0}
IsOkay (Err word) = ⊥

pub first_two : (low high last : ℕ) (r : Response) → response_of (low ∷ high ∷ last ∷ []) ≡ Ok r → low + high * 2 ^ 32 ≡ r.id
first_two low high last r e = by_status (status_of (last / 2 ^ 16)) e
  where
    by_status : (o : Option Status) → response_with (low ∷ high ∷ last ∷ []) o ≡ Ok r → low + high * 2 ^ 32 ≡ r.id
    by_status None e = absurd (subst IsOkay (sym e) tt)
    by_status (Some status) e = ap id_of e

found_with : (v : View) (id place : ℕ) (r : Request)
    → position (λ (x : Request). x.number == id) (take (length v.requests - v.waiting) v.requests) ≡ Some place
    → slice_get v.requests place ≡ Some r → issued v id ≡ Some (place, r)
found_with v id place r at here = ap (found_at v.requests) at ∙ ap (option_map (λ (x : Request). (place, x))) here

pub record IsFound (w : World) (g : Flow) (id : ℕ) : Type 0 where
  pub place : ℕ
  pub r : Request
  pub here : slice_get w.front.requests place ≡ Some r
  pub early : place < length w.front.requests - w.front.waiting
  pub number : r.number ≡ id
  pub found : issued w.front id ≡ Some (place, r)

pub finds : (config : Options) (w : World) (g : Flow) (d : Pipeline) (s : FrontStage) (rep : Reply)
    → Holds config w g d s w.back.stage
    → ending_at s w.front.ending ≡ None
    → IsReply g.series g.fetched rep
    → StandsAt d.requests (rep.id - 1) (Replied rep.status)
    → IsFound w g rep.id
finds config w g d s rep h none is was = by_place (h.stations.opened.held (rep.id - 1) was.q was.at (ap is_finished was.there))
  where
    early_of : (i : ℕ) (r : Request) → slice_get w.front.requests i ≡ Some r → r.number ≡ rep.id → i < length w.front.requests - w.front.waiting
    early_of i r e same = elim (cases_lt i (length w.front.requests - w.front.waiting)) [
      | inl early ↦ early
      | inr late ↦
          let within = slice_get_within w.front.requests i r e in
          let at = h.queue.next (i - (length w.front.requests - w.front.waiting)) r (omega arith) (ap (slice_get w.front.requests) (omega arith) ∙ e) in
          absurd (among_apart g.submitted g.series g.pushed (g.pushed + (i - (length w.front.requests - w.front.waiting))) is.reached.r r h.queue.ordered
          (among_more g.fetched g.pushed is.reached.r h.indices.fetched_pushed is.reached.among) at (omega arith) (is.reached.same ∙ sym same))
    ]

    by_place : (list_any (λ (r : Request). r.number == rep.id - 1 + 1) w.front.requests ≡ true) ⊎ ((e : Ending) × (ending_at s w.front.ending ≡ Some e) × (e.request.number ≡ rep.id - 1 + 1)) → IsFound w g rep.id
    by_place (inl any) =
        let at = place_of_any (λ (r : Request). r.number == rep.id - 1 + 1) w.front.requests any in
        let same : at.1.number ≡ rep.id = grind (arith, nat_tests, at.3, is.positive) in
        let passes = same_number at.1.number rep.id same in
        let few = length w.front.requests - w.front.waiting in
        let early = early_of at.0 at.1 at.2 same in
        let first = found_somewhere (λ (r : Request). r.number == rep.id) (take few w.front.requests) at.0 at.1 (taken_has few w.front.requests at.0 at.1 at.2 early) passes in
        let it = placed_at (λ (r : Request). r.number == rep.id) (take few w.front.requests) first.0 first.1 in
        let whole = taken_was few w.front.requests first.0 it.0 it.1 in
        record {
          place = first.0;
          r = it.0;
          here = whole.1;
          early = whole.0;
          number = grind (arith, nat_tests, it.2);
          found = found_with w.front rep.id first.0 it.0 first.1 whole.1;
        }
    by_place (inr other) = absurd (none-some other.0 (sym none ∙ other.1))
