-- A back that waits for the terms of its front, at the first line and after each epoch: the lines tell nothing of its ring yet.
use Rattle.std.proofs.Common.{◌≡◌, ℕ, true, false, List, [], ◌∷◌, ◌++◌, fold, length, refl, ap, ◌∙◌}
use Rattle.std.specs.Prelude.{Some}
use Rattle.std.specs.List.{filter_map, list_any}
use Rattle.std.proofs.lemmas.List.Sums.{fold-append}
use Rattle.blk_base.specs.declared.operation.Abi.TheVariants.{X64}
use Rattle.segment_list.specs.declared.verdict.DiskInfo.{DiskInfo}
use Rattle.schedule_text.specs.declared.line.Line.{Line}
use Rattle.schedule_text.specs.declared.line.Line.TheVariants as lines
use Rattle.report_rules.specs.Standing.{this_epoch}
use Rattle.report_rules.specs.Ring.{page_made, start_told, start_of, replied_after, produced_after, abi_after}
use Rattle.report_rules.proofs.Back.{epoch_more}
use Rattle.blk_base.specs.declared.halt.Halt.TheVariants as halt
use Rattle.blk_back.specs.Step.{halts}
use Rattle.blk_back.specs.View.{new_of}
use Rattle.ring_laws.proofs.Sight.{is_touch}
use Rattle.ring_laws.proofs.Shows.{Sight, Shows}
use Rattle.ring_laws.proofs.ObeysRing.{ObeysRing}
use Rattle.ring_laws.proofs.Knows.{Follows}
use Rattle.ring_laws.proofs.EntryWords.{none_whole, values_anew, counted_anew}

-- an epoch begins with no line
pub epoch_begins : (before : List Line) → this_epoch (before ++ lines.Epoch ∷ []) ≡ []
epoch_begins before = epoch_more before lines.Epoch

-- what is told of a ring of this first index that isn't made yet
abbrev pub new_sight : (start : ℕ) → Sight
new_sight start = record { pages = []; replied = start; produced = start; words = 0; start = start; values = []; abi = Some X64; touched = false }

pub shows_epoch : (before : List Line) (start : ℕ) → start_of before ≡ start → Shows (before ++ lines.Epoch ∷ []) (new_sight start)
shows_epoch before start same =
    let longer : List Line = before ++ lines.Epoch ∷ [] in
    let none = epoch_begins before in
    let begins : start_of (before ++ lines.Epoch ∷ []) ≡ start = fold-append start_told 0 before (lines.Epoch ∷ []) ∙ same in
    record {
      pages = ap (λ (ls : List Line). filter_map page_made ls) none;
      replied = ap (λ (ls : List Line). fold (replied_after longer) (start_of longer) ls) none ∙ begins;
      produced = ap (λ (ls : List Line). fold (produced_after longer) (start_of longer) ls) none ∙ begins;
      words = ap (λ (vs : List ℕ). length vs) (values_anew before);
      start = begins;
      values = values_anew before;
      abi = ap (λ (ls : List Line). fold abi_after (Some X64) ls) none;
      fresh = λ untouched. ap (λ (ls : List Line). list_any is_touch ls) none;
      counted = counted_anew before;
    }

-- a back that begins knows that, and so does one whose front is gone
pub new_follows : (start : ℕ) (info : DiskInfo) (before : List Line) → Shows before (new_sight start) → ObeysRing before start false → Follows start [] before (new_of start info)
new_follows start info before shows stands = record {
  sight = new_sight start;
  begun = refl;
  more = [];
  grown = refl;
  shows = shows;
  knows = record { waits = record { running = refl; untouched = refl; begins = refl; replied = refl; produced = refl; words = refl; values = refl; numbered = refl }; untold = refl; none = refl };
  stands = stands;
}

pub gone_follows : (start : ℕ) (info : DiskInfo) (before : List Line) → Shows before (new_sight start) → ObeysRing before start true → Follows start [] before (halts (halt.Gone 6) (new_of start info))
gone_follows start info before shows stands = record {
  sight = new_sight start;
  begun = refl;
  more = [];
  grown = refl;
  shows = shows;
  knows = record { over = refl; whole = none_whole (Some X64) 0 refl };
  stands = stands;
}
