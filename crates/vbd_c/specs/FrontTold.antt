-- What the front tells, as the numbers that C reads.
use Rattle.std.specs.Prelude.{ℕ, Option, Some, None, pos, replicate}
use Rattle.blk_base.specs.Operation.{status_code}
use Rattle.blk_front.specs.declared.told.Told.{Told}
use Rattle.blk_front.specs.declared.told.Told.TheVariants.{Answer, Sector, Broken}
use Rattle.xenbus_state.specs.declared.front.FrontNews.{FrontNews}
use Rattle.xenbus_state.specs.declared.front.FrontNews.TheVariants as news
use Rattle.vbd_c.specs.declared.front_told.FrontToldNumbers.{FrontToldNumbers}

abbrev pub of_kind : (kind id word : ℕ) → FrontToldNumbers
of_kind kind id word = record { kind = kind; id = id; index = 0; word = word; status = pos 0; words = replicate 128 0 }

-- what happened at the ring
abbrev pub numbers_of : Told → FrontToldNumbers
numbers_of (Answer id status) = record (of_kind 1 id 0) { status = status_code status }
numbers_of (Sector id index words) = record (of_kind 2 id 0) { index = index; words = words }
numbers_of (Broken word) = of_kind 3 0 word

-- what the negotiation came to
abbrev pub numbers_of_news : FrontNews → FrontToldNumbers
numbers_of_news news.Ready = of_kind 4 0 0
numbers_of_news news.Closing = of_kind 5 0 0
numbers_of_news news.Closed = of_kind 6 0 0
numbers_of_news (news.Broken word) = of_kind 3 0 word

-- never are both anything (`TellsOne`)
abbrev pub numbers_told : Option Told → Option FrontNews → Option FrontToldNumbers
numbers_told (Some told) n = Some (numbers_of told)
numbers_told None (Some n) = Some (numbers_of_news n)
numbers_told None None = None
