-- What the lines tell of the jobs of a back, kept by each move.
use Rattle.std.proofs.Common.{◌≡◌, ℕ, ◌%◌, ◌^◌, ◌<◌, ◌≤◌, ◌||◌, Bool, true, false, List, [], ◌∷◌, ◌++◌, refl, ap, sym, ◌∙◌, subst, append_assoc, append-nil, arith}
use Rattle.std.specs.Prelude.{None, is_some}
use Rattle.std.specs.List.{list_any}
use Rattle.std.proofs.lemmas.List.Folds.{list_any-append}
use Rattle.blk_base.specs.Options.{Options}
use Rattle.schedule_text.specs.declared.line.Line.{Line}
use Rattle.report_rules.specs.Standing.{this_epoch}
use Rattle.report_rules.specs.Effect.{disk_move_shown}
use Rattle.back_jobs.specs.Work.{Work}
use Rattle.blk_back.specs.declared.stage.BackStage.{BackStage}
use Rattle.blk_back.specs.declared.stage.BackStage.TheVariants as stage
use Rattle.blk_back.specs.View.{View, info_of as back_info}
use Rattle.ring_laws.proofs.Sight.{foreign_abi}
use Rattle.ring_laws.proofs.Shows.{Sight, Shows, shows_other}
use Rattle.ring_laws.proofs.Knows.{Waits, Serves, KnowsAt}
use Rattle.ring_laws.proofs.Began.{Terms}
use Rattle.ring_laws.proofs.Free.{IsFree, AreFree}
use Rattle.ring_laws.proofs.JobLines.{is_of}
use Rattle.ring_laws.proofs.Works.{AreJobs, jobs_kept}
use Rattle.ring_laws.proofs.Bystanders.{Tale, AreBystanders, Aside, bystanders_go, bystanders_aside}
use Rattle.ring_laws.proofs.EntryWords.{entry_values}

-- on which terms a back of these options serves
abbrev pub terms_of : Options → View → Terms
terms_of config v = record { config = config; abi = v.shape.abi }

pub record Tells (config : Options) (before : List Line) (v : View) : Type 0 where
  pub tale : Tale config before
  pub quiet : disk_move_shown before ≡ None
  pub info : v.jobs.info ≡ back_info config
  pub room : config.indirect ≤ 960
  pub jobs : is_some v.halted ≡ false → AreJobs (terms_of config v) (entry_values before) (this_epoch before) v.fetched v.jobs.works
  pub unseen : (k : ℕ) → v.fetched < k → list_any (is_of k) (this_epoch before) ≡ false

pub same_jobs : (terms : Terms) (values values' : List ℕ) (epoch epoch' : List Line) (fetched fetched' : ℕ) (works works' : List Work) → values ≡ values' → epoch ≡ epoch' → fetched ≡ fetched' → works ≡ works' → AreJobs terms values epoch fetched works → AreJobs terms values' epoch' fetched' works'
same_jobs terms values values' epoch epoch' fetched fetched' works works' p q r s jobs =
    subst (λ (ws : List Work). AreJobs terms values' epoch' fetched' ws) s
    (subst (λ (n : ℕ). AreJobs terms values' epoch' n works) r
    (subst (λ (ls : List Line). AreJobs terms values' ls fetched works) q
    (subst (λ (vs : List ℕ). AreJobs terms vs epoch fetched works) p jobs)))

-- lines that the rules on the ring pass over
pub shows_free : (over : Bool) (ys before : List Line) (x : Sight) → AreFree over ys → Shows before x → Shows (before ++ ys) x
shows_free over [] before x free shows = subst (λ (ls : List Line). Shows ls x) (sym (append-nil before)) shows
shows_free over (y ∷ ys) before x free shows =
    let here : IsFree over y = free.0 in
    subst (λ (ls : List Line). Shows ls x) (append_assoc before (y ∷ []) ys) (shows_free over ys (before ++ y ∷ []) x free.1 (shows_other before y x here.other (foreign_abi y here.foreign) shows))

unseen_more : (k : ℕ) (epoch ys : List Line) → list_any (is_of k) epoch ≡ false → list_any (is_of k) ys ≡ false → list_any (is_of k) (epoch ++ ys) ≡ false
unseen_more k epoch ys p q = list_any-append (is_of k) epoch ys ∙ (ap (λ (b : Bool). b || list_any (is_of k) ys) p ∙ q)

pub unseen_then : (k : ℕ) (before ys : List Line) → this_epoch (before ++ ys) ≡ this_epoch before ++ ys → list_any (is_of k) (this_epoch before) ≡ false → list_any (is_of k) ys ≡ false → list_any (is_of k) (this_epoch (before ++ ys)) ≡ false
unseen_then k before ys epoch p q = ap (λ (ls : List Line). list_any (is_of k) ls) epoch ∙ unseen_more k (this_epoch before) ys p q

-- lines of others leave it
pub tells_aside : (config : Options) (before ys : List Line) (v : View) → AreBystanders ys → entry_values (before ++ ys) ≡ entry_values before → Tells config before v → Tells config (before ++ ys) v
tells_aside config before ys v all same t =
    let go : Aside config before ys = bystanders_go config ys before all t.tale t.quiet in
    record {
      tale = go.tale;
      quiet = go.quiet;
      info = t.info;
      room = t.room;
      jobs = λ running. same_jobs (terms_of config v) (entry_values before ++ []) (entry_values (before ++ ys)) (this_epoch before ++ ys) (this_epoch (before ++ ys)) v.fetched v.fetched v.jobs.works v.jobs.works (append-nil (entry_values before) ∙ sym same) (sym go.epoch) refl refl
          (jobs_kept (terms_of config v) (entry_values before) [] (this_epoch before) ys v.fetched v.jobs.works (λ k. bystanders_aside k ys all) (t.jobs running));
      unseen = λ k above. let aside = bystanders_aside k ys all in unseen_then k before ys go.epoch (t.unseen k above) aside.none;
    }

-- the numbers so far are below 2 ^ 64
pub small_number : (s : BackStage) (v : View) (x : Sight) → KnowsAt s x v → is_some v.halted ≡ false → v.fetched < 2 ^ 64
small_number s v x = by_stage s
  where
    of_rest : (n count : ℕ) → n ≡ count % 2 ^ 64 → n < 2 ^ 64
    of_rest n count e = omega arith

    both : {A : Type 0} → is_some v.halted ≡ true → is_some v.halted ≡ false → A
    both p q = absurd (cc)

    waits : Waits x v.ring.indices v.ring.seen v.halted v.fetched → v.fetched < 2 ^ 64
    waits w = let e = w.numbered in omega arith

    by_stage : (s : BackStage) → KnowsAt s x v → is_some v.halted ≡ false → v.fetched < 2 ^ 64
    by_stage stage.InitWait k r = waits k.waits
    by_stage stage.MapRing k r = waits k.waits
    by_stage (stage.Fetch n) k r = let s : Serves n x v = k.1 in of_rest v.fetched s.count s.numbered
    by_stage (stage.Abort m) k r = both k.over r
    by_stage stage.UnmapRing k r = both k.over r
    by_stage stage.ClosePort k r = both k.over r
    by_stage stage.UnmapUnbound k r = both k.over r
    by_stage stage.Halted k r = both k.over r
    by_stage s k r = of_rest v.fetched k.count k.numbered
