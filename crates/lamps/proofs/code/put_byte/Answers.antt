-- `lamps::code::put_byte` meets its contract: the law `byte_put`, of the code of the byte. Assumes nothing.
use Rattle.lamps.specs.Lamp.{byte_put}
use Rattle.lamps.proofs.code.put_byte.Goals as goal

pub returns : goal.returns
returns c = λ w W k.
    let s = c in
    byte_put w s.args.wide W s.args.byte _ (c.code_of.ensures w W) s.args.code k
