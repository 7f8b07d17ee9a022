-- `bits::joined` meets its contract.
use native.Mathlib.Omega.{arith}
use Rattle.bits.proofs.Windows.{bytes-number}
use Rattle.bits.proofs.joined.Goals as goal

pub returns : goal.returns
returns c =
    let x = c.args in
    let four = c.from_be_bytes.ensures in
    let num = bytes-number x.a x.b x.c x.d x.e (omega arith) (omega arith) (omega arith) (omega arith) (omega arith) in
    omega arith
