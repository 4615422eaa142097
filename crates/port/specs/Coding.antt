-- The port record stands for document 01's port ('What the gates show'; the model of crate `rule`): `decode` reads a record, `encode` writes the one
-- record of a port.
-- Assumes nothing.
use Rattle.rule.specs.Port as model
use Rattle.timetable.specs.Coding as timetable
use Rattle.frames.specs.Frame.{decode_frame, encode_frame}
use Rattle.port.specs.declared.Port.{Port}

unfoldable pub decode : Port → model.Port
decode p = record { gates = timetable.decode p.gates; frame = decode_frame p.frame; overruns = p.overruns }

unfoldable pub encode : model.Port → Port
encode m = record { frame = encode_frame m.frame; gates = timetable.encode m.gates; overruns = m.overruns }
