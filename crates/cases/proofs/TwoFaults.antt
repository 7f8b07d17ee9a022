-- Every row of the table of two faults holds: the definitions compute to its refusal.
-- Assumes nothing.
use mathlib.Core.Path.{◌≡◌, refl}
use lib.ListN.{length}
use Rattle.lists.specs.Each.{Each}
use Rattle.bits.specs.Bits.{reversed}
use Rattle.kind.specs.Ours.{ours}
use Rattle.units.specs.Split.{front_verdict, split_verdict}
use Rattle.scte20.specs.Layout.{padding}
use Rattle.scte20.specs.Rules.{record_verdict}
use Rattle.scte20.specs.Reading as scte20
use Rattle.scte20.specs.Writing as captions
use Rattle.ga94.specs.Reading as ga94
use Rattle.ga94.specs.Writing as ga94-units
use Rattle.anc.specs.Words.{parity_of, word_of, word_verdict, nine_bit_sum, checksum_of, sum_verdict}
use Rattle.line21.specs.Reading.{length_verdict}
use Rattle.line21.specs.Writing as payloads
use Rattle.sdp.specs.User.{line_verdict, structure_verdict, head_verdict, tail_verdict}
use Rattle.sdp.specs.SlotVerdict.{slot_verdict}
use Rattle.subtitling.specs.Reading.{form_verdict, header_verdict, checksum_verdict, packet_verdict}
use Rattle.subtitling.specs.Writing as packets
use Rattle.reel.specs.Writing.{size_verdict}
use Rattle.pes.specs.Reading as pes
use Rattle.pes.specs.Writing as fields
use Rattle.multi.specs.Reading as multi
use Rattle.multi.specs.Lent as multipackets
use Rattle.multi.specs.Writing as multi-writing
use Rattle.pes_convert.specs.Converting.{convert_verdict}
use Rattle.film.specs.Calls.{picture_verdict}
use Rattle.cases.specs.TwoFaults.{Decided, two_faults}

pub two-fault-cases : Each Decided two_faults
unfolding reversed ours front_verdict split_verdict padding record_verdict scte20.missing scte20.construct_at scte20.marker_verdict scte20.sampled_verdict scte20.rest_verdict scte20.head_verdict scte20.content_verdict captions.whole_verdict captions.range_verdict captions.value_verdict ga94.missing ga94.marker_verdict ga94.head_verdict ga94.closing_verdict ga94.content_verdict ga94-units.whole_verdict ga94-units.flag_verdict ga94-units.range_verdict ga94-units.value_verdict parity_of word_of word_verdict nine_bit_sum checksum_of sum_verdict length_verdict payloads.unit_verdict payloads.value_verdict line_verdict structure_verdict head_verdict tail_verdict slot_verdict form_verdict header_verdict checksum_verdict packet_verdict packets.value_verdict picture_verdict size_verdict pes.field_verdict fields.value_verdict multi.multi_verdict multi-writing.value_verdict multipackets.inner_of convert_verdict
two-fault-cases = ((refl, refl), ((refl, refl), ((refl, refl), ((refl, refl), ((refl, refl), ((refl, refl), ((refl, refl), ((refl, refl), ((refl, refl), ((refl, refl), ((refl, refl), ((refl, refl), ((refl, refl), ((refl, refl), ((refl, refl), ((refl, refl), ((refl, refl), ((refl, refl), ((refl, refl), ((refl, refl), ((refl, refl), ((refl, refl), ((refl, refl), ((refl, refl), ((refl, refl), ((refl, refl), ((refl, refl), ((refl, refl), ((refl, refl), ((refl, refl), ((refl, refl), ((refl, refl), ((refl, refl), ((refl, refl), ((refl, refl), ((refl, refl), ((refl, refl), ((refl, refl), ((refl, refl), ((refl, refl), ((refl, refl), ((refl, refl), ((refl, refl), ((refl, refl), ((refl, refl), ((refl, refl), ((refl, refl), ((refl, refl), ((refl, refl), ((refl, refl), ((refl, refl), ((refl, refl), ((refl, refl), ((refl, refl), ((refl, refl), ((refl, refl), ((refl, refl), ((refl, refl), ((refl, refl), ((refl, refl), ((refl, refl), ((refl, refl), ((refl, refl), ((refl, refl), ((refl, refl), ((refl, refl), ((refl, refl), ((refl, refl), ((refl, refl), ((refl, refl), ((refl, refl), ((refl, refl), ((refl, refl), ((refl, refl), ((refl, refl), ((refl, refl), ((refl, refl), ((refl, refl), ((refl, refl), ((refl, refl), ((refl, refl), ((refl, refl), ((refl, refl), ((refl, refl), ((refl, refl), ((refl, refl), ((refl, refl), ((refl, refl), ((refl, refl), ((refl, refl), ((refl, refl), ((refl, refl), ((refl, refl), ((refl, refl), ((refl, refl), ((refl, refl), ((refl, refl), ((refl, refl), ((refl, refl), ((refl, refl), ((refl, refl), ((refl, refl), ((refl, refl), ((refl, refl), ((refl, refl), ((refl, refl), ((refl, refl), ((refl, refl), ((refl, refl), ((refl, refl), ((refl, refl), ((refl, refl), ((refl, refl), ((refl, refl), ((refl, refl), ((refl, refl), ((refl, refl), ((refl, refl), ((refl, refl), ((refl, refl), ((refl, refl), ((refl, refl), ((refl, refl), ((refl, refl), ((refl, refl), ((refl, refl), ((refl, refl), ((refl, refl), ((refl, refl), ((refl, refl), ((refl, refl), ((refl, refl), ((refl, refl), ((refl, refl), ((refl, refl), ((refl, refl), ((refl, refl), ((refl, refl), ((refl, refl), ((refl, refl), ((refl, refl), ((refl, refl), ((refl, refl), ((refl, refl), ((refl, refl), ((refl, refl), ((refl, refl), ((refl, refl), ((refl, refl), ((refl, refl), ((refl, refl), ((refl, refl), ((refl, refl), ((refl, refl), ((refl, refl), ((refl, refl), tt))))))))))))))))))))))))))))))))))))))))))))))))))))))))))))))))))))))))))))))))))))))))))))))))))))))))))))))))))))))))))))))))))))))))))))))))))))))))))))

pub two-fault-count : length two_faults ≡ 156
two-fault-count = refl
