use Rattle.std.proofs.Common.{◌≡◌, ℕ, [], ◌∷◌, ◌++◌, map, take, drop, ap, ◌∙◌}
use Rattle.lists.specs.Room.{over}
use Rattle.anc.specs.Words.{word_of, byte_of, checksum_of}
use Rattle.sdp.specs.Layout.{sdp_checksum}
use Rattle.subtitling_writer.proofs.Sealing.{two_stores, sdp-sum, cs-sum}
use Rattle.subtitling_writer.proofs.put_sums.Goals as goal

pub returns : goal.returns
returns c =
    let out = c.args.out.now in
    let n = c.args.n in
    let header = c.args.header in
    let user = c.args.user in
    let a = c.word-check.result in
    let fits = c.requires.le_n.0 in
    let room = c.requires.le_n.1 in
    let head = c.requires.header_value in
    let users = c.requires.user_value in
    let told : a ≡ word_of (sdp_checksum (map byte_of (drop 6 (take n out)))) =
    c.word-check.ensures ∙ ap word_of (sdp-sum out n header user a fits room head users) in
    two_stores out n a c.cs.result room
    ∙ ap (λ (b : ℕ). over ((take n out ++ (a ∷ [])) ++ (b ∷ [])) out) (c.cs.ensures ∙ cs-sum out n header user a fits room head users)
    ∙ ap (λ (x : ℕ). over ((take n out ++ (x ∷ [])) ++ (checksum_of (drop 3 (take n out ++ (x ∷ []))) ∷ [])) out) told
