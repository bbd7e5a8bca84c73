-- What a job's moves make of its place in the work of its entry.
use Rattle.std.proofs.Common.{◌≡◌, ℕ, ◌+◌, ◌*◌, ◌%◌, ◌^◌, ◌≤◌, ◌==◌, Bool, true, false, List, [], ◌∷◌, ◌++◌, length, count_by, refl, ap, sym, ◌∙◌, subst, arith}
use Rattle.std.specs.Prelude.{Some, option_and_then, None}
use Rattle.std.specs.List.{list_any}
use Rattle.std.proofs.lemmas.Bool.Decides.{nat_tests}
use Rattle.blk_base.specs.declared.operation.Status.TheVariants.{Okay}
use Rattle.blk_base.specs.declared.parts.Mapping.{Mapping}
use Rattle.blk_base.specs.declared.moves.Move.{Move}
use Rattle.blk_base.specs.declared.moves.Move.TheVariants as moves
use Rattle.schedule_text.specs.declared.line.Line.{Line}
use Rattle.schedule_text.specs.declared.line.Line.TheVariants as lines
use Rattle.blk_layout.specs.declared.segment.Segment.{Segment}
use Rattle.segment_list.specs.Segments.{length_of, sectors_of}
use Rattle.report_rules.specs.declared.work.Task.{Task}
use Rattle.report_rules.specs.declared.work.Task.TheVariants as tasks
use Rattle.report_rules.specs.Walk.{spot, advanced, walk_of}
use Rattle.report_rules.specs.Steps.{failed_in, begins_with_fault}
use Rattle.back_jobs.specs.declared.stage.JobStage.{JobStage}
use Rattle.back_jobs.specs.declared.stage.JobStage.TheVariants as stage
use Rattle.back_jobs.specs.Work.{Work, rest_of, counted}
use Rattle.ring_laws.proofs.JobLines.{is_of, is_disk_of, IsAside, walk_aside, walk_own, moves_aside, moves_own, moves_step, words_aside, failed_same, failed_aside, failed_own}
use Rattle.ring_laws.proofs.Places.{tasks_of, Before, Within, Alone, IsAt, ending_aside, Passed, passed}

pub itself : (k : ℕ) → (k == k) ≡ true
itself k = grind (arith, nat_tests)

-- others' lines leave it
pub before_aside : (work : List Task) (k : ℕ) (epoch ys : List Line) (rest : List Segment) (disk moved : ℕ) (writes : Bool) → IsAside k ys → Before work k epoch rest disk moved writes → Before work k (epoch ++ ys) rest disk moved writes
before_aside work k epoch ys rest disk moved writes aside b = record {
  done = b.done;
  tail = b.tail;
  came = walk_aside work k epoch ys aside.none ∙ b.came;
  sound = b.sound;
  few = b.few;
  counted = moves_aside k epoch ys aside.none ∙ b.counted;
  whole = failed_aside k epoch ys aside b.whole;
}

within_aside : (work : List Task) (k : ℕ) (epoch ys : List Line) (rest : List Segment) (within disk moved : ℕ) (writes : Bool) (j ahead : ℕ) (m : Mapping) → IsAside k ys → Within work k epoch rest within disk moved writes j ahead m → Within work k (epoch ++ ys) rest within disk moved writes j ahead m
within_aside work k epoch ys rest within disk moved writes j ahead m aside w = record {
  segment = w.segment;
  more = w.more;
  rest_is = w.rest_is;
  i = w.i;
  sector = w.sector;
  inside = w.inside;
  begin = w.begin;
  disk_is = w.disk_is;
  done = w.done;
  tail = w.tail;
  came = walk_aside work k epoch ys aside.none ∙ w.came;
  gref = w.gref;
  sound = w.sound;
  few = w.few;
  counted = moves_aside k epoch ys aside.none ∙ w.counted;
  whole = failed_aside k epoch ys aside w.whole;
}

alone_aside : (work : List Task) (k : ℕ) (epoch ys : List Line) (task : Task) (moved : ℕ) → IsAside k ys → Alone work k epoch task moved → Alone work k (epoch ++ ys) task moved
alone_aside work k epoch ys task moved aside w = record {
  is = w.is;
  came = walk_aside work k epoch ys aside.none ∙ w.came;
  once = w.once;
  counted = moves_aside k epoch ys aside.none ∙ w.counted;
  whole = failed_aside k epoch ys aside w.whole;
}

pub at_aside : (work : List Task) (k : ℕ) (epoch ys : List Line) (s : JobStage) (t : Work) → IsAside k ys → IsAt work k epoch s t → IsAt work k (epoch ++ ys) s t
at_aside work k epoch ys stage.Map t aside at = (before_aside work k epoch ys t.rest t.disk t.moved t.writes aside at.0, at.1)
at_aside work k epoch ys (stage.ReadWord m j) t aside at = (within_aside work k epoch ys t.rest t.within t.disk t.moved t.writes j 1 m aside at.0, at.1, at.2)
at_aside work k epoch ys (stage.DiskWrite m) t aside at = (within_aside work k epoch ys t.rest t.within t.disk t.moved t.writes 128 1 m aside at.0, at.1)
at_aside work k epoch ys (stage.DiskRead m) t aside at = (within_aside work k epoch ys t.rest t.within t.disk t.moved t.writes 0 1 m aside at.0, at.1)
at_aside work k epoch ys (stage.WriteWord m j) t aside at = (within_aside work k epoch ys t.rest t.within t.disk t.moved t.writes (1 + j) 0 m aside at.0, at.1, at.2, words_aside k epoch ys aside ∙ at.3)
at_aside work k epoch ys (stage.Unmap m) t aside at = before_aside work k epoch ys (rest_of t.rest) t.disk t.moved t.writes aside at
at_aside work k epoch ys (stage.Abort m) t aside at = failed_same k epoch ys aside ∙ at
at_aside work k epoch ys stage.Flush t aside at = alone_aside work k epoch ys tasks.Flush t.moved aside at
at_aside work k epoch ys (stage.Trim count) t aside at = alone_aside work k epoch ys (tasks.Trim t.disk count) t.moved aside at
at_aside work k epoch ys (stage.Done status) t aside at = ending_aside work k epoch ys Okay aside ∙ at
at_aside work k epoch ys other t aside at = absurd at

-- the same sector, at another step
pub step_on : (work : List Task) (k : ℕ) (epoch : List Line) (rest : List Segment) (within disk moved : ℕ) (writes : Bool) (j ahead next : ℕ) (m : Mapping) (shown : Move) (w : Within work k epoch rest within disk moved writes j ahead m)
    → is_of k (lines.Move shown) ≡ true → is_disk_of k (lines.Move shown) ≡ false → option_and_then (advanced false work shown) (walk_of false work k epoch) ≡ Some (spot (length w.done) (1 + (129 * w.i + next)) false (Some m.number))
    → Within work k (epoch ++ lines.Move shown ∷ []) rest within disk moved writes next ahead m
step_on work k epoch rest within disk moved writes j ahead next m shown w own other taken = record {
  segment = w.segment;
  more = w.more;
  rest_is = w.rest_is;
  i = w.i;
  sector = w.sector;
  inside = w.inside;
  begin = w.begin;
  disk_is = w.disk_is;
  done = w.done;
  tail = w.tail;
  came = walk_own work k epoch [] shown own refl ∙ taken;
  gref = w.gref;
  sound = w.sound;
  few = w.few;
  counted = moves_step k epoch [] (lines.Move shown) other refl ∙ w.counted;
  whole = failed_own k epoch [] (lines.Move shown) refl refl refl w.whole;
}

-- the disk gave the sector at hand
pub given_on : (work : List Task) (k : ℕ) (epoch ys : List Line) (rest : List Segment) (within disk moved : ℕ) (writes : Bool) (m : Mapping) (w : Within work k epoch rest within disk moved writes 0 1 m)
    → list_any (is_of k) ys ≡ false → begins_with_fault ys ≡ false
    → option_and_then (advanced false work (moves.DiskRead k disk)) (walk_of false work k epoch) ≡ Some (spot (length w.done) (1 + (129 * w.i + (0 + 1))) false (Some m.number))
    → Within work k (epoch ++ lines.Move (moves.DiskRead k disk) ∷ ys) rest within (disk + 1) ((moved + 1) % 2 ^ 32) writes (1 + 0) 0 m
given_on work k epoch ys rest within disk moved writes m w none fine taken =
    let few = w.few in
    let at = w.disk_is in
    let more : (moved + 1) % 2 ^ 32 ≡ moved + 1 = omega arith in
    record {
      segment = w.segment;
      more = w.more;
      rest_is = w.rest_is;
      i = w.i;
      sector = w.sector;
      inside = w.inside;
      begin = w.begin;
      disk_is = omega arith;
      done = w.done;
      tail = w.tail;
      came = walk_own work k epoch ys (moves.DiskRead k disk) (itself k) none ∙ taken;
      gref = w.gref;
      sound = w.sound;
      few = omega arith;
      counted = moves_own k epoch ys (lines.Move (moves.DiskRead k disk)) (itself k) none ∙ (ap (λ (n : ℕ). n + 1) w.counted ∙ sym more);
      whole = failed_own k epoch ys (lines.Move (moves.DiskRead k disk)) refl fine none w.whole;
    }

sector_place : (i j : ℕ) → j ≡ 129 → 1 + (129 * i + j) ≡ 1 + (129 * (i + 1) + 0)
sector_place i j e = omega arith

-- the next sector of the segment
pub sector_on : (work : List Task) (k : ℕ) (epoch now : List Line) (rest : List Segment) (within disk moved : ℕ) (writes : Bool) (j ahead last disk' moved' : ℕ) (m : Mapping) (w : Within work k epoch rest within disk moved writes j ahead m)
    → last ≡ 129 → within + 1 ≤ w.segment.last → disk' ≡ disk + ahead → moved' ≡ moved + ahead
    → walk_of false work k now ≡ Some (spot (length w.done) (1 + (129 * w.i + last)) false (Some m.number)) → count_by (is_disk_of k) now ≡ moved' → failed_in k now ≡ false
    → Within work k now rest (within + 1) disk' moved' writes 0 1 m
sector_on work k epoch now rest within disk moved writes j ahead last disk' moved' m w is more d n came counted whole =
    let few = w.few in
    let at = w.disk_is in
    let e = w.sector in
    record {
      segment = w.segment;
      more = w.more;
      rest_is = w.rest_is;
      i = w.i + 1;
      sector = omega arith;
      inside = more;
      begin = w.begin;
      disk_is = omega arith;
      done = w.done;
      tail = w.tail;
      came = came ∙ ap (λ (p : ℕ). Some (spot (length w.done) p false (Some m.number))) (sector_place w.i last is);
      gref = w.gref;
      sound = w.sound;
      few = omega arith;
      counted = counted;
      whole = whole;
    }

-- the segment is done
pub segment_over : (work : List Task) (k : ℕ) (epoch now : List Line) (rest : List Segment) (within disk moved : ℕ) (writes : Bool) (j ahead disk' moved' : ℕ) (m : Mapping) (w : Within work k epoch rest within disk moved writes j ahead m)
    → within ≡ w.segment.last → disk' ≡ disk + ahead → moved' ≡ moved + ahead
    → walk_of false work k now ≡ Some (spot (length w.done + 1) 0 false None) → count_by (is_disk_of k) now ≡ moved' → failed_in k now ≡ false
    → Before work k now (rest_of rest) disk' moved' writes
segment_over work k epoch now rest within disk moved writes j ahead disk' moved' m w last d n came counted whole =
    let few = w.few in
    let at = w.disk_is in
    let e = w.sector in
    let p : Passed work w.done writes (w.begin + length_of w.segment) w.more = passed work w.done w.segment w.more writes w.begin w.tail in
    let left : rest_of rest ≡ w.more = ap rest_of w.rest_is in
    let end : w.begin + length_of w.segment ≡ disk' = omega arith in
    let within_few : moved' + sectors_of w.more ≤ 7680 = omega arith in
    subst (λ (l : List Segment). Before work k now l disk' moved' writes) (sym left)
    (record {
      done = p.all;
      tail = p.tail ∙ ap (λ (n : ℕ). p.all ++ tasks_of writes n w.more) end;
      came = came ∙ ap (λ (n : ℕ). Some (spot n 0 false None)) (sym p.long);
      sound = w.sound.1;
      few = within_few;
      counted = counted;
      whole = whole;
    })
