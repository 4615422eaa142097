-- `lister::strides::stride` meets its contract: the step is not refused, and its two columns are the lines' changes.
-- Assumes nothing.
use Rattle.std.proofs.Common.{ℕ}
use native.Mathlib.Omega.{arith}
use lib.ListN.{length-replicate}
use Rattle.lister.proofs.Striding.{stride-fits, stride-first, stride_ready, stride-strides}
use Rattle.lister.proofs.strides.stride.Goals as goal

pub slice_bounds-instants-end : goal.slice_bounds-instants-end
slice_bounds-instants-end c =
    let z = length-replicate {A = ℕ} 1024 0 in
    stride-fits c.args.span _ _ _ _ z z _ c.step-s.ensures _ c.unwrap_or-n.ensures _ (omega arith)

pub slice_bounds-put_changes-end : goal.slice_bounds-put_changes-end
slice_bounds-put_changes-end c =
    let z = length-replicate {A = ℕ} 1024 0 in
    stride-first c.args.span _ _ _ _ z z _ c.step-s.ensures _ c.unwrap_or-n.ensures _ (omega arith)

pub slice_bounds-octets-end : goal.slice_bounds-octets-end
slice_bounds-octets-end c =
    let z = length-replicate {A = ℕ} 1024 0 in
    stride-fits c.args.span _ _ _ _ z z _ c.step-s.ensures _ c.unwrap_or-n.ensures _ (omega arith)

pub slice_bounds-put_changes-end-2 : goal.slice_bounds-put_changes-end-2
slice_bounds-put_changes-end-2 c =
    let z = length-replicate {A = ℕ} 1024 0 in
    stride-first c.args.span _ _ _ _ z z _ c.step-s.ensures _ c.unwrap_or-n.ensures _ (omega arith)

pub invariant_of-rest : goal.invariant_of-rest
invariant_of-rest c =
    let z = length-replicate {A = ℕ} 1024 0 in
    record { ready = stride_ready c.args.span _ _ _ _ z z _ c.step-s.ensures }

pub returns : goal.returns
returns c =
    let z = length-replicate {A = ℕ} 1024 0 in
    stride-strides c.args.span _ _ _ _ z z _ c.step-s.ensures _ c.unwrap_or-n.ensures c.requires _ _ _
    c.put_changes-used.ensures
