use Rattle.std.proofs.Common.{◌∙◌, ap, map}
use Rattle.std.proofs.lemmas.Result.{IfOk-weaker}
use Rattle.rsp_query.specs.Groups.{parts_in}
use Rattle.rsp_query.specs.Meanings.{part_of}
use Rattle.rsp_algebra.specs.Meanings.{node_of}
use Rattle.rsp_translation.specs.Building.{bare, begun_of, fixed_by}
use Rattle.rsp_translation.proofs.Building.{element_added, elements_step, whole_group}
use Rattle.rsp_translation.proofs.groups.+groups.Goals as goal

pub with_element-returns : goal.with_element-returns
with_element-returns t c =
    IfOk-weaker
    c.with_own.result
    _
    _
    (λ next is.
    element_added
    (fixed_by c.args.setting.now)
    c.args.place.now
    c.args.fresh
    (begun_of c.args.group)
    (begun_of next)
    _
    (part_of c.args.element.now)
    c.in_ok-tree.ensures
    (ap bare is))
    c.with_own.ensures

pub with_elements-loop-element-preserved : goal.with_elements-loop-element-preserved
with_elements-loop-element-preserved t c =
    elements_step
    (fixed_by c.args.setting.now)
    c.args.place.now
    c.loop-element.next
    _
    _
    (begun_of c.loop-element.group)
    _
    c.args.elements.now
    c.loop-element.element-index
    _
    c.loop-element-test.true
    c.element-item.is
    c.in_ok-group.ensures
    c.in_ok-slashes_of.ensures
    c.in_ok-next.ensures.total
    ∙ c.loop-element.invariant

pub group_tree-returns : goal.group_tree-returns
group_tree-returns t c =
    IfOk-weaker
    c.with_tests.result
    _
    _
    (λ tree is.
    whole_group
    (fixed_by c.args.setting.now)
    c.args.place.now
    c.args.fresh
    (parts_in (map part_of c.args.body.now))
    _
    _
    (node_of tree)
    c.in_ok-elements.ensures
    c.in_ok-filtered.ensures
    is)
    c.with_tests.ensures
