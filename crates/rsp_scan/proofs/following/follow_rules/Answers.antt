use Rattle.rsp_scan.proofs.RuleLaws.{iri_reads, string_reads}
use Rattle.rsp_scan.proofs.LongestTag.{tag_is}
use Rattle.rsp_scan.proofs.NameLaws.{tag_reads, label_reads}
use Rattle.rsp_scan.proofs.following.follow_rules.Goals as goal

pub returns : goal.returns
returns c = record { iris = iri_reads; strings = string_reads; labels = label_reads; tags = tag_reads; tag_texts = tag_is }
