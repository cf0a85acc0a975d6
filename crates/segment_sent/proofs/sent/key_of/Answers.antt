-- `segment_sent::sent::key_of` meets its contract: a code below 256 is the byte, and 256 is unknown.
-- Assumes nothing.
use native.Mathlib.Omega.{arith}
use Rattle.segment_sent.specs.Counts.{read_code, no_code}
use Rattle.segment_sent.proofs.sent.key_of.Goals as goal

pub returns-then-code-lt256 : goal.returns-then-code-lt256
returns-then-code-lt256 c = let a = c.args in
    read_code a.keys a.n (omega (arith, c.requires.0, c.well_formed.0)) c.if-code-lt256.true

pub returns-else-code-lt256 : goal.returns-else-code-lt256
returns-else-code-lt256 c = let a = c.args in
    no_code a.keys a.n (omega (arith, c.requires.0, c.well_formed.0)) c.if-code-lt256.false c.requires.1
