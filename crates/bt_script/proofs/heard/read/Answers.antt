use Rattle.std.proofs.Common.{rules, ℕ, ◌<◌, arith}
use Rattle.std.proofs.lemmas.List.Elements.{All-from_get_or}
use Rattle.hex.proofs.HexLemmas.{decode_of-ok}
use Rattle.bt_script.proofs.heard.read.Goals as goal

-- a byte has two digits
pub decode-requires : goal.decode-requires
decode-requires c = omega (arith, (decode_of-ok c.args.digits.now c.args.bytes.now c.requires.digits).2, c.requires.short)

-- what is read has a spelling
pub returns-in-Ok-clause-in_range : goal.returns-in-Ok-clause-in_range
returns-in-Ok-clause-in_range c =
    let bytes = (decode_of-ok c.args.digits.now c.args.bytes.now c.requires.digits).3 in
    c.messages_have_one_spelling.ensures.in_range c.args.bytes.now _ (All-from_get_or (λ (byte : ℕ). byte < 256) c.args.bytes.now 0 (λ i within. bytes i)) (search rules)
