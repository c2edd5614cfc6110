use Rattle.audit_report.proofs.Prelude.{◌≡◌, ◌++◌, drop, flat_map, line_byte}
use Rattle.audit_report.proofs.object.put_line_bytes.Given as goal

abbrev pub invariant-loop-byte : goal.invariant-loop-byte
invariant-loop-byte l = l.out.items ++ flat_map line_byte (drop l.byte-index l.bytes) ≡ l.initial.out.items ++ flat_map line_byte l.bytes
