use Rattle.std.proofs.Common.{◌≡◌, string_bytes, take}
use Rattle.std.specs.List.{flat_map}
use Rattle.stat_report.specs.Json.{hex_byte}
use Rattle.stat_report.proofs.json_reports.hex_bytes.Given as goal

-- the digits so far
abbrev pub invariant-loop-byte : goal.invariant-loop-byte
invariant-loop-byte l = string_bytes l.digits ≡ flat_map hex_byte (take l.byte-index l.bytes)
