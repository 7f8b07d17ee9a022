-- Every starred case of the table holds: the definitions compute to its answer.
-- Assumes nothing.
use mathlib.Core.Path.{◌≡◌, refl}
use lib.ListN.{length}
use Rattle.lists.specs.Each.{Each}
use Rattle.bits.specs.Bits.{reversed}
use Rattle.kind.specs.Ours.{ours}
use Rattle.units.specs.Split.{front_verdict, split_verdict}
use Rattle.scte20.specs.Layout.{padding}
use Rattle.scte20.specs.Rules.{record_verdict}
use Rattle.scte20.specs.Reading as scte20
use Rattle.ga94.specs.Reading as ga94
use Rattle.listing.specs.Texts.{decimal, text_of}
use Rattle.anc.specs.Words.{parity_of, word_of, word_verdict, nine_bit_sum, checksum_of, sum_verdict}
use Rattle.line21.specs.Reading.{length_verdict, read_unit}
use Rattle.sdp.specs.User.{line_verdict, structure_verdict, head_verdict, tail_verdict, slot_of, counter_in}
use Rattle.subtitling.specs.Reading.{form_verdict, header_verdict, checksum_verdict, packet_verdict}
use Rattle.cases.specs.Table.{Comes, table}

pub starred-cases : Each Comes table
unfolding reversed ours front_verdict split_verdict padding record_verdict scte20.missing scte20.construct_at scte20.marker_verdict scte20.sampled_verdict scte20.rest_verdict scte20.head_verdict scte20.content_verdict scte20.value_of ga94.missing ga94.construct_at ga94.marker_verdict ga94.head_verdict ga94.closing_verdict ga94.content_verdict ga94.value_of decimal text_of parity_of word_of word_verdict nine_bit_sum checksum_of sum_verdict line_verdict structure_verdict head_verdict tail_verdict slot_of counter_in form_verdict header_verdict checksum_verdict packet_verdict length_verdict read_unit
starred-cases = (refl, (refl, (refl, (refl, (refl, (refl, (refl, (refl, (refl, (refl, (refl, (refl, (refl, (refl, (refl, (refl, (refl, (refl, (refl, (refl, (refl, (refl, (refl, (refl, (refl, (refl, (refl, ((refl, refl), ((refl, refl), (refl, (refl, tt)))))))))))))))))))))))))))))))

pub starred-count : length table ≡ 31
starred-count = refl
