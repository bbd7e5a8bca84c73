-- The steps of the samples are allowed, and the disk does what they say.
use Rattle.std.proofs.Common.{◌≡◌, ℕ, zero, suc, ◌<◌, ◌≤◌, ◌+◌, ◌⊎◌, List, [], ◌∷◌, ◌++◌, refl, arith}
use Rattle.std.specs.Prelude.{Some, slice_get}
use Rattle.blk_base.specs.declared.operation.Status.TheVariants.{Okay, Error}
use Rattle.blk_io.specs.Disk.{SameBut}
use Rattle.plain_disk.specs.Request.{filling}
use Rattle.pipeline_laws.specs.Station.{Pushed, Working, Finished}
use Rattle.pipeline_laws.specs.Pipeline.{Pipeline, pipeline_of, after_steps}
use Rattle.pipeline_laws.specs.Allowed.{AreFinished, AreAllowed}
use Rattle.pipeline_laws.specs.Disk.{DiskRuns}
use Rattle.pipeline_laws.specs.Samples.{two_sectors, at, write, barrier, other_write, with_words, long_write, barrier_begins, barrier_works, barrier_ends, barrier_steps, order_begins, order_ends, order_steps, read_begins, read_ends, read_steps, fault_steps}
use Rattle.pipeline_laws.proofs.Joining.{allowed_append}
use Rattle.pipeline_laws.proofs.Sampling.{here, first, second, clear, clear_after, one_finished, two_finished}

pub barrier_allowed : AreAllowed barrier_steps (pipeline_of two_sectors)
barrier_allowed =
    allowed_append barrier_begins (barrier_works ++ barrier_ends) (pipeline_of two_sectors) begins
    (allowed_append barrier_works barrier_ends (after_steps barrier_begins (pipeline_of two_sectors)) works ends)
  where
    begins : AreAllowed barrier_begins (pipeline_of two_sectors)
    begins = ((refl, refl), (refl, (refl, ((here _ 0 _ refl, tt), ((here _ 0 _ refl, first _), ((here _ 0 _ refl, tt), ((here _ 0 _ refl, tt), ((here _ 0 _ refl, (refl, omega arith, clear _ _)), (tt, ((refl, refl), tt))))))))))

    works : AreAllowed barrier_works (after_steps barrier_begins (pipeline_of two_sectors))
    works = ((here _ 0 _ refl, tt), ((here _ 0 _ refl, first _), ((here _ 1 _ refl, tt), ((here _ 1 _ refl, second _ (at write Pushed) _ refl refl), ((here _ 0 _ refl, tt), ((here _ 0 _ refl, tt), ((here _ 1 _ refl, tt), ((here _ 1 _ refl, tt), ((here _ 0 _ refl, (refl, omega arith, clear _ _)), ((here _ 1 _ refl, (refl, omega arith, clear_after _ _ (at write (Working 1)) refl refl)), tt))))))))))

    ends : AreAllowed barrier_ends (after_steps barrier_works (after_steps barrier_begins (pipeline_of two_sectors)))
    ends = ((here _ 1 _ refl, tt), ((here _ 1 _ refl, tt), ((here _ 1 _ refl, tt), ((here _ 0 _ refl, tt), ((here _ 0 _ refl, tt), ((here _ 0 _ refl, tt), ((here _ 1 _ refl, tt), ((here _ 1 _ refl, tt), ((here _ 0 _ refl, tt), ((here _ 0 _ refl, tt), (two_finished _ (at write (Finished Okay)) (at barrier (Finished Okay)) refl refl refl, tt)))))))))))

pub barrier_disk : (a b : List ℕ) → DiskRuns barrier_steps (a ∷ b ∷ []) (filling barrier.submission 0 ∷ b ∷ [])
barrier_disk a b = (_, refl, (_, refl, (_, refl, (_, refl, (_, refl, (_, refl, (_, refl, (_, refl, (_, refl, (_, refl, (_, refl, (_, refl, (_, refl, (_, refl, (_, refl, (_, refl, (_, refl, (_, refl, (_, refl, (_, refl, (_, refl, (_, refl, (_, refl, (_, refl, (_, refl, (_, refl, (_, refl, (_, refl, (_, refl, (_, refl, (_, refl, refl)))))))))))))))))))))))))))))))

pub order_allowed : AreAllowed order_steps (pipeline_of two_sectors)
order_allowed = allowed_append order_begins order_ends (pipeline_of two_sectors) begins ends
  where
    begins : AreAllowed order_begins (pipeline_of two_sectors)
    begins = ((refl, refl), (refl, (refl, ((here _ 0 _ refl, tt), ((here _ 0 _ refl, first _), ((here _ 1 _ refl, tt), ((here _ 1 _ refl, second _ (at write Pushed) _ refl refl), ((here _ 0 _ refl, tt), ((here _ 0 _ refl, tt), ((here _ 1 _ refl, tt), ((here _ 1 _ refl, tt), tt)))))))))))

    ends : AreAllowed order_ends (after_steps order_begins (pipeline_of two_sectors))
    ends = ((here _ 1 _ refl, (refl, omega arith, clear_after _ _ (at write (Working 0)) refl refl)), ((here _ 1 _ refl, tt), ((here _ 1 _ refl, tt), ((here _ 1 _ refl, tt), ((here _ 1 _ refl, tt), ((here _ 1 _ refl, tt), ((here _ 0 _ refl, (refl, omega arith, clear _ _)), ((here _ 0 _ refl, tt), ((here _ 0 _ refl, tt), ((here _ 0 _ refl, tt), ((here _ 0 _ refl, tt), ((here _ 0 _ refl, tt), (two_finished _ (at write (Finished Okay)) (at other_write (Finished Okay)) refl refl refl, tt)))))))))))))

pub order_disk : (a b : List ℕ) → DiskRuns order_steps (a ∷ b ∷ []) (filling write.submission 0 ∷ filling other_write.submission 0 ∷ [])
order_disk a b = (_, refl, (_, refl, (_, refl, (_, refl, (_, refl, (_, refl, (_, refl, (_, refl, (_, refl, (_, refl, (_, refl, (_, refl, (_, refl, (_, refl, (_, refl, (_, refl, (_, refl, (_, refl, (_, refl, (_, refl, (_, refl, (_, refl, (_, refl, (_, refl, refl))))))))))))))))))))))))

pub read_allowed : (words : List ℕ) → AreAllowed (read_steps words) (pipeline_of two_sectors)
read_allowed words = allowed_append (read_begins words) (read_ends words) (pipeline_of two_sectors) begins ends
  where
    begins : AreAllowed (read_begins words) (pipeline_of two_sectors)
    begins = ((refl, refl), (refl, ((here _ 0 _ refl, tt), ((here _ 0 _ refl, first _), ((here _ 0 _ refl, tt), ((here _ 0 _ refl, tt), ((here _ 0 _ refl, (refl, omega arith)), ((here _ 0 _ refl, tt), ((here _ 0 _ refl, tt), ((here _ 0 _ refl, tt), (tt, ((refl, refl), tt))))))))))))

    ends : AreAllowed (read_ends words) (after_steps (read_begins words) (pipeline_of two_sectors))
    ends = ((here _ 0 _ refl, tt), ((here _ 0 _ refl, first _), ((here _ 0 _ refl, tt), ((here _ 0 _ refl, tt), ((here _ 0 _ refl, (refl, omega arith)), ((here _ 0 _ refl, tt), ((here _ 0 _ refl, tt), ((here _ 0 _ refl, tt), ((here _ 0 _ refl, tt), ((here _ 0 _ refl, tt), ((here _ 0 _ refl, refl), (one_finished _ (at (with_words words) (Finished Okay)) refl refl, tt))))))))))))

pub read_disk : (a words : List ℕ) → DiskRuns (read_steps words) (a ∷ words ∷ []) (a ∷ words ∷ [])
read_disk a words = (_, refl, (_, refl, (_, refl, (_, refl, (_, refl, (_, refl, (_, (refl, refl), (_, refl, (_, refl, (_, refl, (_, refl, (_, refl, (_, refl, (_, refl, (_, refl, (_, refl, (_, (refl, refl), (_, refl, (_, refl, (_, refl, (_, refl, (_, refl, (_, refl, (_, refl, refl))))))))))))))))))))))))

pub fault_allowed : AreAllowed fault_steps (pipeline_of two_sectors)
fault_allowed = ((refl, refl), (refl, ((here _ 0 _ refl, tt), ((here _ 0 _ refl, first _), ((here _ 0 _ refl, tt), ((here _ 0 _ refl, tt), ((here _ 0 _ refl, (refl, omega arith, clear _ _)), ((here _ 0 _ refl, (omega arith, λ e. clear _ _)), ((here _ 0 _ refl, tt), ((here _ 0 _ refl, tt), ((here _ 0 _ refl, tt), ((here _ 0 _ refl, tt), ((here _ 0 _ refl, tt), (over _ refl, (refl, ((refl, refl, over _ refl), ((refl, refl, over _ refl), tt)))))))))))))))))
  where
    over : (p : Pipeline) → p.requests ≡ at long_write (Finished Error) ∷ [] → AreFinished p
    over p all = one_finished p (at long_write (Finished Error)) all refl

-- nobody knows what the second sector holds then
pub fault_disk : (a b c : List ℕ) → DiskRuns fault_steps (a ∷ b ∷ []) (filling long_write.submission 0 ∷ c ∷ [])
fault_disk a b c = (_, refl, (_, refl, (_, refl, (_, refl, (_, refl, (_, refl, (_, refl, (_, lost, (_, refl, (_, refl, (_, refl, (_, refl, (_, refl, (_, refl, (_, refl, (_, refl, (_, refl, refl)))))))))))))))))
  where
    lost : SameBut 1 1 (Some (filling long_write.submission 0 ∷ b ∷ [])) (Some (filling long_write.submission 0 ∷ c ∷ []))
    lost = (refl, other)
      where
        other : (i : ℕ) → (i < 1) ⊎ (1 + 1 ≤ i) → slice_get (filling long_write.submission 0 ∷ c ∷ []) i ≡ slice_get (filling long_write.submission 0 ∷ b ∷ []) i
        other zero far = refl
        other (suc zero) far = absurd (grind arith)
        other (suc (suc i)) far = refl
