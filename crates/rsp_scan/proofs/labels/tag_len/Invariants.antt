use Rattle.std.proofs.Common.{◌≡◌, ◌≤◌, true, false, drop}
use Rattle.rsp_scan.specs.Scans.{scan, tag_machine}
use Rattle.rsp_scan.proofs.Best.{best}
use Rattle.rsp_scan.proofs.labels.tag_len.Given as goal

abbrev pub invariant-loop-place : goal.invariant-loop-place
invariant-loop-place l = record {
  best : best l.end l.place (scan tag_machine l.state (drop l.place l.text)) ≡ scan tag_machine (true, false) l.text;
  within : l.end ≤ l.place;
}
