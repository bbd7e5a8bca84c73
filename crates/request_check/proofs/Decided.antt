-- Where the state follows the disk, its verdicts are the rules.
use Rattle.std.proofs.Common.{◌≡◌, ℕ, suc, ◌+◌, ◌-◌, ◌==◌, ◌&&◌, ◌||◌, not, Bool, true, false, List, take, length, refl, ap, sym, ◌∙◌, subst, arith}
use Rattle.std.specs.Prelude.{Option, Some, None, is_none, option_map}
use Rattle.std.specs.List.{list_all}
use Rattle.std.specs.Map.{values_of}
use Rattle.std.proofs.lemmas.Bool.Decides.{nat_tests}
use Rattle.blk_base.specs.declared.config.Submission.{Submission}
use Rattle.blk_base.specs.declared.operation.Status.{Status}
use Rattle.blk_base.specs.declared.operation.Status.TheVariants as status
use Rattle.schedule_text.specs.declared.line.Line.{Line}
use Rattle.schedule_text.specs.declared.line.Line.TheVariants as lines
use Rattle.plain_disk.specs.declared.request.DiskRequest.{DiskRequest}
use Rattle.plain_disk.specs.declared.request.Place.{Place}
use Rattle.plain_disk.specs.declared.request.RequestStage.{RequestStage}
use Rattle.plain_disk.specs.declared.request.RequestStage.TheVariants as stages
use Rattle.plain_disk.specs.Request.{is_read, is_write, is_flush, is_discard, is_ordered, is_barrier, is_open, is_finished, is_settled, are_settled, may_serve, sector_of}
use Rattle.plain_disk.specs.Disk.{Disk, request_of}
use Rattle.plain_disk.specs.Sector.{only, may_hold}
use Rattle.plain_disk.specs.Step.{is_in_order, place_sector, may_reply, is_status, is_next, are_noted}
use Rattle.request_check.specs.Rules.{is_any, may_fill, may_show, may_end, is_ordered_so, may_be_replied, may_be_answered, may_be_told, are_finished, keeps_effect, keeps_barrier, keeps_service, keeps_reply, keeps_answer, keeps_data, keeps_quiet}
use Rattle.request_check.specs.Words.{words_in}
use Rattle.request_check.specs.Progress.{Progress, progress_of}
use Rattle.request_check.specs.State.{Open, State, open_of}
use Rattle.request_check.specs.Verdicts.{is_idle, may_serve_now, may_end_now, may_show_now, allows_effect, is_settled_now, lets_pass, all_pass, is_in_turn, allows_barrier, allows_service, may_say, may_reply_now, allows_reply, may_answer_now, allows_answer, may_tell_now, allows_data, allows_quiet}
use Rattle.request_check.proofs.Opens.{Notes, open_as, open_in}
use Rattle.request_check.proofs.Requests.{request_suc, open_request}
use Rattle.request_check.proofs.Waits.{idle_opens, SettledSo, From, walk, no_barriers, closed}
use Rattle.request_check.proofs.Told.{SameDoings, IsTold}
use Rattle.request_check.proofs.Follows.{Follows}

and_false : (b : Bool) → (b && false) ≡ false
and_false true = refl
and_false false = refl

told_of : (o : Option DiskRequest) (r : DiskRequest) (p : Progress) (done : List Place) (id : ℕ) → o ≡ Some r → IsTold o p done id → is_open r.stage ≡ true → SameDoings p r done id
told_of o r p done id found t = subst (λ (x : Option DiskRequest). IsTold x p done id) found t

-- ---- one request
serve_same : (r : DiskRequest) (p : Progress) (done : List Place) (id index : ℕ) (notes : List (ℕ × List ℕ)) → (is_open r.stage ≡ true → SameDoings p r done id) → may_serve_now (open_as id r notes) p index ≡ may_serve done id r index
serve_same r p done id index notes told = by_stage (is_open r.stage) refl
  where
    by_stage : (b : Bool) → is_open r.stage ≡ b → may_serve_now (open_as id r notes) p index ≡ may_serve done id r index
    by_stage true is = let t : SameDoings p r done id = told is in rw (t.faulted, t.reply, t.places index) refl
    by_stage false is = rw is refl

settled_same : (r : DiskRequest) (p : Progress) (done : List Place) (id : ℕ) (notes : List (ℕ × List ℕ)) → (is_open r.stage ≡ true → SameDoings p r done id) → is_settled_now (open_as id r notes) p ≡ is_settled done id r
settled_same r p done id notes told = by_stage (is_open r.stage) refl
  where
    by_stage : (b : Bool) → is_open r.stage ≡ b → is_settled_now (open_as id r notes) p ≡ is_settled done id r
    by_stage true is = let t : SameDoings p r done id = told is in rw (t.faulted, t.reply, t.count) refl
    by_stage false is = rw is refl

say_same : (d : Disk) (r : DiskRequest) (p : Progress) (id : ℕ) (notes : List (ℕ × List ℕ)) (s : Status) → SameDoings p r d.done id → may_say (open_as id r notes) p s ≡ may_reply d id r s
say_same d r p id notes status.Okay t = rw t.count refl
say_same d r p id notes status.Error t = t.faulted
say_same d r p id notes status.Unsupported t = refl

reply_same : (d : Disk) (r : DiskRequest) (p : Progress) (id : ℕ) (notes : List (ℕ × List ℕ)) (s : Status) → (is_open r.stage ≡ true → SameDoings p r d.done id)
    → (is_open r.stage && is_none p.reply && may_say (open_as id r notes) p s) ≡ (is_open r.stage && is_none r.reply && may_reply d id r s)
reply_same d r p id notes s told = by_stage (is_open r.stage) refl
  where
    by_stage : (b : Bool) → is_open r.stage ≡ b → (is_open r.stage && is_none p.reply && may_say (open_as id r notes) p s) ≡ (is_open r.stage && is_none r.reply && may_reply d id r s)
    by_stage true is = let t : SameDoings p r d.done id = told is in rw (say_same d r p id notes s t, t.reply) refl
    by_stage false is = rw is refl

answer_same : (r : DiskRequest) (p : Progress) (done : List Place) (id : ℕ) (s : Status) → (is_open r.stage ≡ true → SameDoings p r done id) → (is_open r.stage && is_status p.reply s) ≡ (is_open r.stage && is_status r.reply s)
answer_same r p done id s told = by_stage (is_open r.stage) refl
  where
    by_stage : (b : Bool) → is_open r.stage ≡ b → (is_open r.stage && is_status p.reply s) ≡ (is_open r.stage && is_status r.reply s)
    by_stage true is = let t : SameDoings p r done id = told is in rw t.reply refl
    by_stage false is = rw is refl

-- a finished request serves nothing, and nothing of it is told
shut_serves : (r : DiskRequest) (done : List Place) (id index : ℕ) → is_finished r.stage ≡ true → may_serve done id r index ≡ false
shut_serves r done id index is = rw (closed r.stage is) refl

shut_next : (s : RequestStage) (index : ℕ) → is_finished s ≡ true → is_next s index ≡ false
shut_next stages.Open index is = refl
shut_next (stages.Telling n) index is = absurd (cc)
shut_next stages.Finished index is = refl

module _ (g : Notes) (s : State) (d : Disk) (f : Follows g s d) where
  told_now : (id : ℕ) (r : DiskRequest) → request_of d.requests id ≡ Some r → is_open r.stage ≡ true → SameDoings (progress_of s.progress id) r d.done id
  told_now id r found = told_of (request_of d.requests id) r (progress_of s.progress id) d.done id found (f.doings id)

  kept_of : (id : ℕ) → open_of s.requests id ≡ open_in (g id) id (request_of d.requests id)
  kept_of id = rw f.requests (open_request g d.requests id)

  -- ---- effects and services
  end_by : (kind : Submission → Bool) (id index : ℕ) (o : Option DiskRequest) → request_of d.requests id ≡ o → may_end_now kind s id index (open_in (g id) id o) ≡ may_end kind d id index o
  end_by kind id index None found = refl
  end_by kind id index (Some r) found = by_stage (is_finished r.stage) refl
    where
      by_stage : (b : Bool) → is_finished r.stage ≡ b → may_end_now kind s id index (open_in (g id) id (Some r)) ≡ may_end kind d id index (Some r)
      by_stage true is = rw is (sym (ap (λ (b : Bool). kind r.submission && b) (shut_serves r d.done id index is) ∙ and_false (kind r.submission)))
      by_stage false is = rw is (ap (λ (b : Bool). kind r.submission && b) (serve_same r (progress_of s.progress id) d.done id index (g id) (told_now id r found)))

  end_same : (kind : Submission → Bool) (id index : ℕ) → may_end_now kind s id index (open_of s.requests id) ≡ may_end kind d id index (request_of d.requests id)
  end_same kind id index = ap (may_end_now kind s id index) (kept_of id) ∙ end_by kind id index (request_of d.requests id) refl

  fill_is : (id index : ℕ) (o : Option DiskRequest) → may_end is_write d id index o ≡ may_fill d id index o
  fill_is id index None = refl
  fill_is id index (Some r) = refl

  show_by : (id index : ℕ) (words : List ℕ) (o : Option DiskRequest) → request_of d.requests id ≡ o → may_show_now s id index words (open_in (g id) id o) ≡ may_show d id index words o
  show_by id index words None found = refl
  show_by id index words (Some r) found = by_stage (is_finished r.stage) refl
    where
      by_stage : (b : Bool) → is_finished r.stage ≡ b → may_show_now s id index words (open_in (g id) id (Some r)) ≡ may_show d id index words (Some r)
      by_stage true is = rw is (sym (ap (λ (b : Bool). is_read r.submission && b && may_hold (place_sector d.first d.changes r.submission index).own words) (shut_serves r d.done id index is)
          ∙ ap (λ (b : Bool). b && may_hold (place_sector d.first d.changes r.submission index).own words) (and_false (is_read r.submission))))
      by_stage false is = rw is (ap (λ (b : Bool). is_read r.submission && b && may_hold (option_map only (words_in s.sectors (sector_of r.submission + index))) words) (serve_same r (progress_of s.progress id) d.done id index (g id) (told_now id r found))
          ∙ ap (λ (w : Option (List (List ℕ))). is_read r.submission && may_serve d.done id r index && may_hold w words) (f.sectors.words (sector_of r.submission + index)))

  show_same : (id index : ℕ) (words : List ℕ) → may_show_now s id index words (open_of s.requests id) ≡ may_show d id index words (request_of d.requests id)
  show_same id index words = ap (may_show_now s id index words) (kept_of id) ∙ show_by id index words (request_of d.requests id) refl

  pub effect_same : (line : Line) → allows_effect s line ≡ keeps_effect d line
  effect_same (lines.Effect id index) = end_same is_write id index ∙ fill_is id index (request_of d.requests id)
  effect_same (lines.EffectRead id index words) = show_same id index words
  effect_same line = refl

  pub service_same : (line : Line) → allows_service s line ≡ keeps_service d line
  service_same (lines.Flushed id) = end_same is_flush id 0
  service_same (lines.Trimmed id) = end_same is_discard id 0
  service_same (lines.Fault id index) = end_same is_any id index
  service_same line = refl

  -- ---- the order that barriers want
  one_suc : (i : ℕ) → 1 + i ≡ suc i
  one_suc i = omega arith

  settled_each : From (SettledSo s.progress d.done g) 1 d.requests
  settled_each i r found = λ waits. settled_same r (progress_of s.progress (1 + i)) d.done (1 + i) (g (1 + i)) (told_now (1 + i) r (ap (λ (k : ℕ). request_of d.requests k) (one_suc i) ∙ request_suc d.requests i ∙ found))

  walk_same : (id : ℕ) (barrier : Bool) → list_all (lets_pass s.progress id barrier) (values_of s.requests) ≡ are_settled d.done 1 (take (id - 1) d.requests) barrier
  walk_same id barrier = ap (λ (es : List (ℕ × Open)). list_all (lets_pass s.progress id barrier) (values_of es)) f.requests ∙ walk s.progress d.done g d.requests 1 (id - 1) id barrier refl settled_each

  all_same : (id : ℕ) (barrier : Bool) → all_pass s id barrier ≡ are_settled d.done 1 (take (id - 1) d.requests) barrier
  all_same id true = walk_same id true
  all_same id false = by_count (s.barriers == 0) refl
    where
      by_count : (b : Bool) → (s.barriers == 0) ≡ b → all_pass s id false ≡ are_settled d.done 1 (take (id - 1) d.requests) false
      by_count true is =
          let none : s.barriers ≡ 0 = grind (arith, nat_tests) in
          let passes : list_all (lets_pass s.progress id false) (values_of s.requests) ≡ true =
          ap (λ (es : List (ℕ × Open)). list_all (lets_pass s.progress id false) (values_of es)) f.requests ∙ no_barriers s.progress g d.requests 1 id (sym f.barriers ∙ none) in
          rw is (sym passes ∙ walk_same id false)
      by_count false is = rw is (walk_same id false)

  shut_turn : (a b : Bool) → (not (a && false) || b) ≡ true
  shut_turn true b = refl
  shut_turn false b = refl

  turn_by : (kind : Submission → Bool) (id : ℕ) (o : Option DiskRequest) → request_of d.requests id ≡ o → is_in_turn kind s id (open_in (g id) id o) ≡ is_ordered_so kind d id o
  turn_by kind id None found = refl
  turn_by kind id (Some r) found = by_stage (is_finished r.stage) refl
    where
      by_stage : (b : Bool) → is_finished r.stage ≡ b → is_in_turn kind s id (open_in (g id) id (Some r)) ≡ is_ordered_so kind d id (Some r)
      by_stage true is = rw is (rw (closed r.stage is) (sym (shut_turn (kind r.submission) (is_in_order d id r))))
      by_stage false is = rw is (ap (λ (b : Bool). not (kind r.submission && is_open r.stage) || b) (all_same id (is_barrier r.submission)))

  turn_same : (kind : Submission → Bool) (id : ℕ) → is_in_turn kind s id (open_of s.requests id) ≡ is_ordered_so kind d id (request_of d.requests id)
  turn_same kind id = ap (is_in_turn kind s id) (kept_of id) ∙ turn_by kind id (request_of d.requests id) refl

  pub barrier_same : (line : Line) → allows_barrier s line ≡ keeps_barrier d line
  barrier_same (lines.Effect id index) = turn_same is_write id
  barrier_same (lines.Trimmed id) = turn_same is_discard id
  barrier_same (lines.Fault id index) = turn_same is_ordered id
  barrier_same line = refl

  -- ---- replies and answers
  reply_by : (id : ℕ) (said : Status) (o : Option DiskRequest) → request_of d.requests id ≡ o → may_reply_now s id said (open_in (g id) id o) ≡ may_be_replied d id said o
  reply_by id said None found = refl
  reply_by id said (Some r) found = by_stage (is_finished r.stage) refl
    where
      by_stage : (b : Bool) → is_finished r.stage ≡ b → may_reply_now s id said (open_in (g id) id (Some r)) ≡ may_be_replied d id said (Some r)
      by_stage true is = rw is (rw (closed r.stage is) refl)
      by_stage false is = rw is (reply_same d r (progress_of s.progress id) id (g id) said (told_now id r found))

  pub reply_decided : (line : Line) → allows_reply s line ≡ keeps_reply d line
  reply_decided (lines.Reply id said) = ap (may_reply_now s id said) (kept_of id) ∙ reply_by id said (request_of d.requests id) refl
  reply_decided line = refl

  answer_by : (id : ℕ) (said : Status) (o : Option DiskRequest) → request_of d.requests id ≡ o → may_answer_now s id said (open_in (g id) id o) ≡ may_be_answered said o
  answer_by id said None found = refl
  answer_by id said (Some r) found = by_stage (is_finished r.stage) refl
    where
      by_stage : (b : Bool) → is_finished r.stage ≡ b → may_answer_now s id said (open_in (g id) id (Some r)) ≡ may_be_answered said (Some r)
      by_stage true is = rw is (rw (closed r.stage is) refl)
      by_stage false is = rw is (answer_same r (progress_of s.progress id) d.done id said (told_now id r found))

  pub answer_decided : (line : Line) → allows_answer s line ≡ keeps_answer d line
  answer_decided (lines.Answer id said) = ap (may_answer_now s id said) (kept_of id) ∙ answer_by id said (request_of d.requests id) refl
  answer_decided line = refl

  -- ---- data, and quiet
  tell_by : (id index : ℕ) (words : List ℕ) (o : Option DiskRequest) → request_of d.requests id ≡ o → may_tell_now index words (open_in (g id) id o) ≡ may_be_told d id index words o
  tell_by id index words None found = refl
  tell_by id index words (Some r) found = by_stage (is_finished r.stage) refl
    where
      by_stage : (b : Bool) → is_finished r.stage ≡ b → may_tell_now index words (open_in (g id) id (Some r)) ≡ may_be_told d id index words (Some r)
      by_stage true is = rw is (rw (shut_next r.stage index is) refl)
      by_stage false is = rw is (ap (λ (o : Option (List ℕ)). is_next r.stage index && are_noted o words) (f.noted id index))

  pub data_decided : (line : Line) → allows_data s line ≡ keeps_data d line
  data_decided (lines.Data id index words) = ap (may_tell_now index words) (kept_of id) ∙ tell_by id index words (request_of d.requests id) refl
  data_decided line = refl

  pub idle_same : is_idle s ≡ are_finished d.requests
  idle_same = ap (λ (es : List (ℕ × Open)). length es == 0) f.requests ∙ idle_opens g d.requests 1

  pub quiet_decided : (line : Line) → allows_quiet s line ≡ keeps_quiet d line
  quiet_decided lines.Quiet = idle_same
  quiet_decided line = refl
