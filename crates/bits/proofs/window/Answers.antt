-- `bits::window` meets its contract: each byte that it joins is the one at its index, or 0 beyond the last.
use mathlib.Core.Path.{refl}
use Rattle.bits.proofs.Windows.{window_bytes}
use Rattle.bits.proofs.window.Goals as goal

pub returns-then-k-s : goal.returns-then-k-s
returns-then-k-s c =
    let args = c.args in
    window_bytes args.s.now args.k refl refl refl refl refl c.joined.ensures

pub returns : goal.returns
returns c =
    let args = c.args in
    window_bytes args.s.now args.k
    c.byte_at.ensures
    c.byte_at-2.ensures
    c.byte_at-3.ensures
    c.byte_at-4.ensures
    c.byte_at-5.ensures
    c.joined-2.ensures
