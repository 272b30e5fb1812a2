use Rattle.std.proofs.Common.{rules, sym, ◌∙◌}
use Rattle.script.proofs.Lines.{line_skipped, line_asks, mapped_line}
use Rattle.script.proofs.command.parse.Goals as goal

pub returns-then-is_skipped : goal.returns-then-is_skipped
returns-then-is_skipped c = line_skipped c.args.line.now c.next_word.result.0.now c.next_word.ensures.0 (sym c.if-is_skipped.ensures)

pub returns : goal.returns
returns c = mapped_line c.parse_command.result c.map.result _ (λ x o p. search rules) c.map.ensures.cases ∙ (c.parse_command.ensures ∙ line_asks c.args.line.now c.next_word.result.0.now c.next_word.result.1.now c.next_word.ensures.0 c.next_word.ensures.1 (sym c.if-is_skipped.ensures))
