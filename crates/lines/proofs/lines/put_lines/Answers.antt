-- `lines::lines::put_lines` meets its contract.
-- Assumes nothing.
use Rattle.text.specs.Text.{bytes_of}
use Rattle.columns.specs.Columns.{line}
use Rattle.lines.specs.Lines.{header, operator_lines, last_line, printed}
use Rattle.text.proofs.WrittenLaws.{three-first, three-second, three_third, put_three}
use Rattle.lines.proofs.lines.put_lines.Goals as goal

pub put_word-first-requires : goal.put_word-first-requires
unfolding printed header line bytes_of
put_word-first-requires c =
    three-first c.args.out.now 0 header (operator_lines c.args.b c.args.s 16) (last_line c.args.s) c.requires.1

pub put_operators-last-requires : goal.put_operators-last-requires
unfolding printed header line bytes_of
put_operators-last-requires c =
    (c.requires.0, three-second c.args.out.now 0 header (operator_lines c.args.b c.args.s 16) (last_line c.args.s) c.requires.1 c.put_word-first.ensures)

pub put_last-requires : goal.put_last-requires
unfolding printed header line bytes_of
put_last-requires c =
    (c.requires.0, three_third c.args.out.now 0 header (operator_lines c.args.b c.args.s 16) (last_line c.args.s) c.requires.1 c.put_word-first.ensures c.put_operators-last.ensures)

pub returns : goal.returns
unfolding printed header line bytes_of
returns c =
    put_three c.args.out.now 0 header (operator_lines c.args.b c.args.s 16) (last_line c.args.s) c.requires.1 c.put_word-first.ensures c.put_operators-last.ensures c.put_last.ensures
