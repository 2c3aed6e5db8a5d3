use Rattle.std.proofs.Common.{◌≡◌, ◌<◌, ◌^◌}
use Rattle.pdq_value.specs.KeyPrefixes.{leading}
use Rattle.pdq_value.proofs.key_prefixes.text_prefix.Given as goal

abbrev pub invariant-loop-place : goal.invariant-loop-place
invariant-loop-place l = record { value : l.prefix ≡ leading l.place l.bytes; size : l.prefix < 256 ^ l.place }
