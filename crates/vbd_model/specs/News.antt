-- The line of what the front's negotiation made happen.
use Rattle.std.specs.Prelude.{List, [], ◌∷◌, Option, Some, None}
use Rattle.schedule_text.specs.declared.line.Line.{Line}
use Rattle.schedule_text.specs.declared.line.Line.TheVariants as lines
use Rattle.xenbus_state.specs.declared.front.FrontNews.{FrontNews}
use Rattle.xenbus_state.specs.declared.front.FrontNews.TheVariants as news

abbrev pub news_line : FrontNews → Line
news_line news.Ready = lines.Ready
news_line news.Closing = lines.Closing
news_line news.Closed = lines.Closed
news_line (news.Broken word) = lines.Broken word

abbrev pub news_lines : Option FrontNews → List Line
news_lines None = []
news_lines (Some n) = news_line n ∷ []
