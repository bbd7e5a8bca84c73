use Rattle.request_check.proofs.EachRule.{kept_where_allowed}
use Rattle.request_check.proofs.laws.a_report_keeps_the_rules_where_each_line_is_allowed.Goals as goal

pub returns : goal.returns
returns c = kept_where_allowed
