-- `lamp_tests::code::wrong_bits` meets its contract: the laws `sound_code` and `code_sound`. Assumes nothing.
use borrow.Author.Tests.{eqb-true, eq-eqb}
use Rattle.lamps.specs.Lamp.{sound_code, code_sound}
use Rattle.lamp_tests.proofs.code.wrong_bits.Goals as goal

pub returns : goal.returns
returns c = λ w W. record {
  so = λ e. sound_code w c.args.wide c.args.code W c.ranges.code.fits (eqb-true _ 0 e);
  back = λ h. eq-eqb _ 0 (code_sound w c.args.wide c.args.code W c.ranges.code.fits h);
}
