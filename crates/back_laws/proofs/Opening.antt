-- What an answer to a back makes of what is known, before its port is bound.
use Rattle.std.proofs.Common.{◌≡◌, ℕ, ◌+◌, ◌^◌, Bool, true, false, if◌then◌else◌, List, [], ◌∷◌, ◌++◌, length, refl, sym, ap, ◌∙◌}
use Rattle.std.specs.Prelude.{ℤ, Option, Some, None, nat_lt}
use Rattle.std.proofs.lemmas.List.{append-nil}
use Rattle.blk_base.specs.declared.parts.Mapping.{Mapping}
use Rattle.blk_base.specs.declared.ask.BackAsk.{BackAsk}
use Rattle.blk_base.specs.declared.ask.BackAsk.TheVariants as ask
use Rattle.blk_base.specs.declared.ask.BackAnswer.{BackAnswer}
use Rattle.blk_base.specs.declared.ask.BackAnswer.TheVariants as answer
use Rattle.ring_words.specs.Shape.{Shape, entries_of}
use Rattle.blk_base.specs.declared.halt.Halt.{Halt}
use Rattle.blk_base.specs.declared.halt.Halt.TheVariants as halt
use Rattle.blk_back.specs.declared.stage.BackStage.TheVariants as stage
use Rattle.blk_back.specs.View.{View}
use Rattle.blk_back.specs.Ask.{ask_at, next_gref}
use Rattle.blk_back.specs.Step.{at, unmapping_next, unbound, bound, mapped, fetched}
use Rattle.back_laws.specs.Activity.{Asked, Reach}
use Rattle.back_laws.specs.Ledger.{JobAsked}
use Rattle.back_laws.specs.Life.{IsOpening, mapped_in, mapped_by, HasHalted, NotMapped, NotBound}
use Rattle.back_jobs.specs.Work.{Work}
use Rattle.back_laws.proofs.Keeping.{keeps_none}
use Rattle.back_laws.proofs.Activities.{all_push, mapped_more}
use Rattle.back_laws.proofs.Lives.{here, IsOpened, KnowsAt, Knows}

abbrev pub Asks : BackAsk → BackAnswer → Asked
Asks a given = record { ask = a; answer = given }

-- what was asked with its answer, and what is known then
abbrev pub Leads : ℕ → List JobAsked → List Asked → List Halt → Asked → View → Type 0
Leads start trace own calls x v = Knows start trace (own ++ x ∷ []) calls v

-- before the port is bound
pub opened_wait : (start : ℕ) (trace : List JobAsked) (own : List Asked) (r : Reach) (halted : Option Halt) (works : List Work) (fetched : ℕ) (x : Asked) → IsOpening x → mapped_by x.answer ≡ [] → IsOpened start trace own r halted works fetched → IsOpened start trace (own ++ x ∷ []) r halted works fetched
opened_wait start trace own r halted works fetched x opening none o = record {
  opens = all_push IsOpening own x o.opens opening;
  pages = o.pages ∙ sym (mapped_more own x ∙ (ap (λ (l : List Mapping). mapped_in own ++ l) none ∙ append-nil (mapped_in own)));
  prod = o.prod;
  cons = o.cons;
  seen = o.seen;
  none = o.none;
  quiet = o.quiet;
  jobless = o.jobless;
  first = o.first;
}

opened_map : (start : ℕ) (trace : List JobAsked) (own : List Asked) (r : Reach) (halted : Option Halt) (works : List Work) (fetched : ℕ) (m : Mapping) (x : Asked) → IsOpening x → x.answer ≡ answer.Mapped m
    → IsOpened start trace own r halted works fetched → IsOpened start trace (own ++ x ∷ []) (record r { pages = r.pages ++ m ∷ [] }) halted works fetched
opened_map start trace own r halted works fetched m x opening made o = record {
  opens = all_push IsOpening own x o.opens opening;
  pages = ap (λ (l : List Mapping). l ++ m ∷ []) o.pages ∙ sym (mapped_more own x ∙ ap (λ (given : BackAnswer). mapped_in own ++ mapped_by given) made);
  prod = o.prod;
  cons = o.cons;
  seen = o.seen;
  none = o.none;
  quiet = o.quiet;
  jobless = o.jobless;
  first = o.first;
}

-- a back that has halted before its port was bound
pub unbound_knows : (pages : List Mapping) (start : ℕ) (trace : List JobAsked) (own : List Asked) (calls : List Halt) (v : View) → HasHalted start v.shape own calls v.halted → KnowsAt (unbound pages) start trace own calls v
unbound_knows [] start trace own calls v h = h
unbound_knows (page ∷ pages) start trace own calls v h = h

pub bound_knows : (pages : List Mapping) (start : ℕ) (trace : List JobAsked) (own : List Asked) (calls : List Halt) (v : View) → HasHalted start v.shape own calls v.halted → KnowsAt (bound pages) start trace own calls v
bound_knows [] start trace own calls v h = h
bound_knows (page ∷ pages) start trace own calls v h = h

pub giving_knows : (m : Option Mapping) (start : ℕ) (trace : List JobAsked) (own : List Asked) (calls : List Halt) (v : View) → HasHalted start v.shape own calls v.halted → KnowsAt (unmapping_next m) start trace own calls v
giving_knows None start trace own calls v h = h
giving_knows (Some m) start trace own calls v h = h

same_reach : (shape : Shape) (p q : List Mapping) (a b c start : ℕ) → p ≡ q → a ≡ start → b ≡ start → c ≡ start
    → (let r : Reach = record { shape = shape; pages = q; prod = start; cons = start; seen = start } in r ≡ record { shape = shape; pages = p; prod = a; cons = b; seen = c })
same_reach shape p q a b c start e f g h = rw (e, f, g, h) refl

-- the port is bound
pub binds : (start : ℕ) (trace : List JobAsked) (own : List Asked) (calls : List Halt) (v : View) → v.ring.indices.entries ≡ entries_of v.shape.order → length v.pages ≡ 2 ^ v.shape.order → IsOpened start trace own (here v) v.halted v.jobs.works v.fetched → Leads start trace own calls (Asks (ask.Bind v.ring.port) answer.Done) (at stage.Loop v)
binds start trace own calls v entries all o = record {
  entries = entries;
  at = record {
    opening = own;
    port = v.ring.port;
    activities = [];
    is = record { opens = o.opens; whole = sym (ap (λ (l : List Mapping). length l) o.pages) ∙ all; right = tt };
    mapped = o.pages;
    reach = same_reach v.shape v.pages (mapped_in own) v.ring.indices.prod v.ring.indices.cons v.ring.seen start o.pages o.prod o.cons o.seen;
    asked = sym (append-nil (own ++ Asks (ask.Bind v.ring.port) answer.Done ∷ []));
    none = o.none;
    kept = keeps_none trace v.jobs.info v.shape.abi v.jobs.works v.fetched o.quiet o.jobless o.first;
  };
}

pub not_bound : (start : ℕ) (trace : List JobAsked) (own : List Asked) (calls : List Halt) (v : View) → v.ring.indices.entries ≡ entries_of v.shape.order → IsOpened start trace own (here v) v.halted v.jobs.works v.fetched → Leads start trace own calls (Asks (ask.Bind v.ring.port) answer.BindRefused) (record v { halted = Some (halt.BadPort v.ring.port); stage = unbound v.pages })
not_bound start trace own calls v entries o =
    let x : Asked = Asks (ask.Bind v.ring.port) answer.BindRefused in
    record {
      entries = entries;
      at = unbound_knows v.pages start trace (own ++ x ∷ []) calls (record v { halted = Some (halt.BadPort v.ring.port); stage = unbound v.pages })
          (record { cause = NotBound own v.ring.port; closing = []; is = o.opens; closes = tt; asked = sym (append-nil (own ++ x ∷ [])); why = refl });
    }

pub not_mapped : (start : ℕ) (trace : List JobAsked) (own : List Asked) (calls : List Halt) (v : View) (status : ℤ) → v.ring.indices.entries ≡ entries_of v.shape.order → IsOpened start trace own (here v) v.halted v.jobs.works v.fetched → Leads start trace own calls (Asks (ask_at stage.MapRing v) (answer.MapRefused status)) (record v { halted = Some (halt.MapRefused (next_gref v) status); stage = unbound v.pages })
not_mapped start trace own calls v status entries o =
    let x : Asked = Asks (ask_at stage.MapRing v) (answer.MapRefused status) in
    record {
      entries = entries;
      at = unbound_knows v.pages start trace (own ++ x ∷ []) calls (record v { halted = Some (halt.MapRefused (next_gref v) status); stage = unbound v.pages })
          (record { cause = NotMapped own (next_gref v) status; closing = []; is = o.opens; closes = tt; asked = sym (append-nil (own ++ x ∷ [])); why = refl });
    }

pub maps : (start : ℕ) (trace : List JobAsked) (own : List Asked) (calls : List Halt) (v : View) (m : Mapping) → v.ring.indices.entries ≡ entries_of v.shape.order → IsOpening (Asks (ask_at stage.MapRing v) (answer.Mapped m)) → IsOpened start trace own (here v) v.halted v.jobs.works v.fetched → Leads start trace own calls (Asks (ask_at stage.MapRing v) (answer.Mapped m)) (mapped m v)
maps start trace own calls v m entries opening o = record { entries = entries; at = by_test (nat_lt (length v.pages + 1) (length v.grefs)) }
  where
    x : Asked
    x = Asks (ask_at stage.MapRing v) (answer.Mapped m)

    o' : IsOpened start trace (own ++ x ∷ []) (record (here v) { pages = v.pages ++ m ∷ [] }) v.halted v.jobs.works v.fetched
    o' = opened_map start trace own (here v) v.halted v.jobs.works v.fetched m x opening refl o

    by_test : (b : Bool) → KnowsAt (if b then stage.MapRing else stage.Bind) start trace (own ++ x ∷ []) calls (mapped m v)
    by_test true = o'
    by_test false = o'
