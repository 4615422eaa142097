-- `frames::deciding::decide` meets its contract: refused in the order of Transmit, or the chosen frame.
-- Assumes nothing.
use Rattle.frames.proofs.Decisions.{decides-refused, accepts, decides-done}
use Rattle.frames.proofs.deciding.decide.Goals as goal

pub returns-in-Err : goal.returns-in-Err
returns-in-Err c =
    let a = c.args in decides-refused a.heads a.speed a.g.now a.f _ c.declined.ensures _ c.in-Err.is

pub chosen-frame-requires : goal.chosen-frame-requires
chosen-frame-requires c =
    let a = c.args in
    let d = c.declined.ensures in
    let z = accepts a.heads a.speed a.g.now a.f _ d c.in-Ok.is in
    record { fine = (d.fine z).0; offered = d.offered z }

pub returns-in-Ok : goal.returns-in-Ok
returns-in-Ok c =
    let a = c.args in decides-done a.heads a.speed a.g.now a.f _ c.declined.ensures c.in-Ok.is _ c.chosen-frame.ensures _ c.sending.ensures
