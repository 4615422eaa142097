-- `port::Port::transmit` meets its contract: the decision on the record's parts, whose frame is stored.
-- Assumes nothing.
use Rattle.port.proofs.Transmissions.{transmit_stores}
use Rattle.port.proofs.Port.transmit.Goals as goal

pub returns : goal.returns
returns c = search (transmit_stores)
