-- What a recorder exposes after lines that were given to it one after another: for whoever adds more than once.
use Rattle.std.proofs.Common.{◌≡◌, ℕ, ◌≤◌, List, [], ◌∷◌, ◌++◌, Option, Some, None, IfSome, Result, Ok, Err, refl, ap, sym, ◌∙◌, subst, append_assoc, arith}
use Rattle.std.proofs.lemmas.List.{append-nil}
use Rattle.std.proofs.lemmas.List.Concat.{flat_map-append}
use Rattle.std.specs.Borrow.{GName}
use Rattle.blk_io.specs.Outside.{SinkSeen, IsPartlyWritten, written}
use Rattle.blk_base.specs.Access.{move_of}
use Rattle.blk_base.specs.declared.moves.Access.{Access}
use Rattle.blk_base.specs.declared.moves.Move.{Move}
use Rattle.schedule_text.specs.declared.line.Detail.{Detail}
use Rattle.schedule_text.specs.declared.line.Detail.TheVariants.{Moves}
use Rattle.schedule_text.specs.declared.line.Line.{Line}
use Rattle.schedule_text.specs.declared.line.Line.TheVariants as lines
use Rattle.schedule_text.specs.declared.recorder.RecordStop.{RecordStop}
use Rattle.schedule_text.specs.declared.recorder.RecordStop.TheVariants.{Failed, OutOfMemory}
use Rattle.schedule_text.specs.Recorder.{Told, gained, recorded, kept_of, line_bytes, report_text, StopsAt, RecorderSeen, Gained, Because, StopsAmong, Adds}
use Rattle.schedule_text.specs.Recorders.{listing, KeepsLine, writing, WritesLine}
use Rattle.schedule_text.proofs.Gaining as told

-- no lines
pub gained_none : (r : RecorderSeen) → Gained [] r r
gained_none r = record { told = sym (told.gained_none r.told); detail = refl; faults = refl; lender = refl }

-- what is told after these lines, and then those
told_then : (xs ys : List Line) (r s : RecorderSeen) → Gained xs r s → gained s.told (kept_of s.detail ys) ≡ gained r.told (kept_of r.detail (xs ++ ys))
told_then xs ys r s p =
    ap (λ (d : Detail). gained s.told (kept_of d ys)) p.detail
    ∙ ap (λ (t : Told). gained t (kept_of r.detail ys)) p.told
    ∙ told.gained_twice r.told (kept_of r.detail xs) (kept_of r.detail ys)
    ∙ ap (gained r.told) (sym (flat_map-append (recorded r.detail) xs ys))

-- these lines, and then those
pub gained_twice : (xs ys : List Line) (r s t : RecorderSeen) → Gained xs r s → Gained ys s t → Gained (xs ++ ys) r t
gained_twice xs ys r s t p q = record {
  told = q.told ∙ told_then xs ys r s p;
  detail = q.detail ∙ p.detail;
  faults = q.faults ∙ p.faults;
  lender = q.lender ∙ p.lender;
}

-- it stopped at one of the first
pub stopped_first : (xs ys : List Line) (stop : RecordStop) (r s : RecorderSeen) → StopsAmong [] xs stop r s → StopsAmong [] (xs ++ ys) stop r s
stopped_first xs ys stop r s p = record {
  said = p.said;
  cut = p.cut;
  rest = p.rest ++ ys;
  all = ap (λ (l : List Line). l ++ ys) p.all ∙ append_assoc p.said (p.cut ∷ p.rest) ys;
  stops = p.stops;
  detail = p.detail;
  because = p.because;
  lender = p.lender;
}

-- it took these, and then stopped at a line after more of them
cut_then : (xs ys : List Line) (cut : Line) (stop : RecordStop) (r s t : RecorderSeen) → Gained xs r s → StopsAt stop (gained s.told (kept_of s.detail ys)) (recorded s.detail cut) t.told → StopsAt stop (gained r.told (kept_of r.detail (xs ++ ys))) (recorded r.detail cut) t.told
cut_then xs ys cut stop r s t p q =
    subst (λ (d : Detail). StopsAt stop (gained r.told (kept_of r.detail (xs ++ ys))) (recorded d cut) t.told) p.detail
    (subst (λ (x : Told). StopsAt stop x (recorded s.detail cut) t.told) (told_then xs ys r s p) q)

-- it stopped at one of the last
pub stopped_last : (xs ys : List Line) (stop : RecordStop) (r s t : RecorderSeen) → Gained xs r s → StopsAmong [] ys stop s t → StopsAmong [] (xs ++ ys) stop r t
stopped_last xs ys stop r s t p q = record {
  said = xs ++ q.said;
  cut = q.cut;
  rest = q.rest;
  all = ap (λ (l : List Line). xs ++ l) q.all ∙ sym (append_assoc xs q.said (q.cut ∷ q.rest));
  stops = cut_then xs q.said q.cut stop r s t p q.stops;
  detail = q.detail ∙ p.detail;
  because = subst (λ f. Because stop f t.faults) p.faults q.because;
  lender = q.lender ∙ p.lender;
}

-- it stopped in a later call, which took lines before
pub stopped_later : (xs before ys : List Line) (stop : RecordStop) (r s t : RecorderSeen) → Gained xs r s → StopsAmong before ys stop s t → StopsAmong (xs ++ before) ys stop r t
stopped_later xs before ys stop r s t p q = record {
  said = q.said;
  cut = q.cut;
  rest = q.rest;
  all = q.all;
  stops =
      subst (λ (l : List Line). StopsAt stop (gained r.told (kept_of r.detail l)) (recorded r.detail q.cut) t.told) (sym (append_assoc xs before q.said))
      (cut_then xs (before ++ q.said) q.cut stop r s t p q.stops);
  detail = q.detail ∙ p.detail;
  because = subst (λ f. Because stop f t.faults) p.faults q.because;
  lender = q.lender ∙ p.lender;
}

-- it took the first, and then this came of the last
pub adds_then : (xs ys : List Line) (result : Result (Unit {0}) RecordStop) (r s t : RecorderSeen) → Gained xs r s → Adds ys result s t → Adds (xs ++ ys) result r t
adds_then xs ys (Ok done) r s t p q = gained_twice xs ys r s t p q
adds_then xs ys (Err stop) r s t p q = stopped_last xs ys stop r s t p q

-- a recorder keeps its detail and its lender, and its faults never fall
pub record RecorderKeeps (r s : RecorderSeen) : Type 0 where
  pub detail : s.detail ≡ r.detail
  pub lender : s.lender ≡ r.lender
  pub later : r.faults ≤ s.faults

because_later : (stop : RecordStop) (before after : ℕ) → Because stop before after → before ≤ after
because_later Failed before after p = p.later
because_later OutOfMemory before after p = omega (arith, p)

pub recorder_keeps : (more : List Line) (result : Result (Unit {0}) RecordStop) (r s : RecorderSeen) → Adds more result r s → RecorderKeeps r s
recorder_keeps more (Ok done) r s p = let same = p.faults in record { detail = p.detail; lender = p.lender; later = omega arith }
recorder_keeps more (Err stop) r s p = record { detail = p.detail; lender = p.lender; later = because_later stop r.faults s.faults p.because }

-- what a recorder keeps of one line was taken
pub took : (line : Line) (a b : RecorderSeen) → b.told ≡ gained a.told (recorded a.detail line) → b.detail ≡ a.detail → b.faults ≡ a.faults → b.lender ≡ a.lender → Gained (line ∷ []) a b
took line a b told detail faults lender = record {
  told = told ∙ ap (gained a.told) (sym (append-nil (recorded a.detail line)));
  detail = detail;
  faults = faults;
  lender = lender;
}

-- nothing is kept of a line
pub took_nothing : (line : Line) (a : RecorderSeen) → recorded a.detail line ≡ [] → Gained (line ∷ []) a a
took_nothing line a none = took line a a (sym (told.gained_none a.told) ∙ ap (gained a.told) (sym none)) refl refl refl

-- it stopped at one line
pub stopped : (line : Line) (stop : RecordStop) (a b : RecorderSeen) → StopsAt stop a.told (recorded a.detail line) b.told → b.detail ≡ a.detail → Because stop a.faults b.faults → b.lender ≡ a.lender → StopsAmong [] (line ∷ []) stop a b
stopped line stop a b within detail because lender = record {
  said = [];
  cut = line;
  rest = [];
  all = refl;
  stops = subst (λ (x : Told). StopsAt stop x (recorded a.detail line) b.told) (sym (told.gained_none a.told)) within;
  detail = detail;
  because = because;
  lender = lender;
}

-- one line was kept in memory
pub listed : (line shown : Line) (d : Detail) (result : Result (Unit {0}) RecordStop) (xs ys : List Line) → recorded d line ≡ shown ∷ [] → KeepsLine shown result xs ys → Adds (line ∷ []) result (listing d xs) (listing d ys)
listed line shown d (Ok done) xs ys one p =
    took line (listing d xs) (listing d ys) (ap (λ (l : List Line). record { lines = Some l; text = None; tally = None }) (p ∙ ap (λ (l : List Line). xs ++ l) (sym one))) refl refl refl
listed line shown d (Err Failed) xs ys one p = absurd p
listed line shown d (Err OutOfMemory) xs ys one p =
    stopped line OutOfMemory (listing d xs) (listing d ys) (ap (λ (l : List Line). record { lines = Some l; text = None; tally = None }) p) refl refl refl

-- the text of one line
text_one : (line : Line) → report_text (line ∷ []) ≡ line_bytes line
text_one line = append-nil (line_bytes line)

-- one line was written to a recorder's sink
pub sent : (line shown : Line) (d : Detail) (g : GName) (result : Result (Unit {0}) RecordStop) (a b : SinkSeen) → recorded d line ≡ shown ∷ [] → WritesLine shown result a b → Adds (line ∷ []) result (writing d g a) (writing d g b)
sent line shown d g (Ok done) a b one p =
    let as_text = p.held ∙ ap (written a.held) (sym (text_one shown)) in
    let as_kept = as_text ∙ ap (λ (l : List Line). written a.held (report_text l)) (sym one) in
    took line (writing d g a) (writing d g b) (ap (λ (x : Option (List ℕ)). record { lines = None; text = x; tally = None }) as_kept) refl p.faults refl
sent line shown d g (Err Failed) a b one p =
    let as_text = subst (λ (x : List ℕ). IsPartlyWritten a.held x b.held) (sym (text_one shown)) p.held in
    let as_kept = subst (λ (l : List Line). IsPartlyWritten a.held (report_text l) b.held) (sym one) as_text in
    stopped line Failed (writing d g a) (writing d g b) (record { lines = refl; tally = refl; text = as_kept }) refl p.rose refl
sent line shown d g (Err OutOfMemory) a b one p = absurd p

-- the line of an access was written to a recorder's sink
pub sent_access : (move : Move) (found : Option Access) (access : Access) (g : GName) (result : Result (Unit {0}) RecordStop) (a b : SinkSeen)
    → IfSome found (λ (x : Access). move_of x ≡ move) → found ≡ Some access → WritesLine (lines.Move (move_of access)) result a b
    → Adds (lines.Move move ∷ []) result (writing Moves g a) (writing Moves g b)
sent_access move found access g result a b same is p =
    let shown = subst (λ (o : Option Access). IfSome o (λ (x : Access). move_of x ≡ move)) is same in
    sent (lines.Move move) (lines.Move (move_of access)) Moves g result a b (ap (λ (m : Move). lines.Move m ∷ []) (sym shown)) p
