-- The words are below 1,024, so that their sums fit.
use Rattle.std.proofs.Common.{get_or, arith}
use Rattle.anc.proofs.Words.{word_low}
use Rattle.multi_writer.proofs.put_head.Goals as goal

pub overflow_add-result : goal.overflow_add-result
overflow_add-result c =
    let h = c.args.head in
    omega (
      arith,
      c.word-ndid.ensures,
      word_low (get_or h 2 0) c.requires.head_bound_2.0,
      c.word-nsdid.ensures,
      word_low (get_or h 3 0) c.requires.head_bound_2.1,
    )

pub overflow_add-result-2 : goal.overflow_add-result-2
overflow_add-result-2 c =
    let h = c.args.head in
    omega (
      arith,
      c.word-ndid.ensures,
      word_low (get_or h 2 0) c.requires.head_bound_2.0,
      c.word-nsdid.ensures,
      word_low (get_or h 3 0) c.requires.head_bound_2.1,
      c.word-ndc.ensures,
      word_low (get_or h 5 0) c.requires.head_bound_2.2,
    )
