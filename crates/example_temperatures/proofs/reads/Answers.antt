-- `reads` is safe: a reading is a number, of which the bits can be told. Assumes nothing.
use Rattle.half_degrees.specs.Laws.{halved_number}
use Rattle.example_temperatures.proofs.reads.Goals as goal

pub float_to_bits-degrees : goal.float_to_bits-degrees
float_to_bits-degrees g c = halved_number c.args.degrees c.requires
