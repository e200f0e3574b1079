-- `tells-read`: of what follows the role in a key's text, .0 says that the branch's length was read, .1 that the method's comes next, .2 that the texts come
-- after it, and .3 that the method is no longer than what is left after the branch's length.
use Rattle.std.proofs.Common.{◌∙◌, ap, sym, subst, length}
use Rattle.std.specs.Prelude.{◌≤◌}
use Rattle.sip_key.specs.inner.KeyText.{key_text}
use Rattle.sip_key.proofs.KeyLemmas.{front-short, tells-read}
use Rattle.sip_key.proofs.key.Key.split.Goals as goal

-- the text begins with the length of the branch
pub split_length-branch-requires : goal.split_length-branch-requires
split_length-branch-requires c =
    front-short c.args.self.now c.self.inside.text.items c.deref.result.now (c.self.invariant ∙ ap key_text c.self.view_is) c.deref.ensures.value

-- the length of the method is not more than what is left
pub split_length-method-requires : goal.split_length-method-requires
split_length-method-requires c =
    let t = tells-read c.args.self.now c.self.inside.text.items c.deref.result.now c.split_length-branch.result.1.now c.split_length-branch.result.0
    (c.self.invariant ∙ ap key_text c.self.view_is) c.deref.ensures.value c.split_length-branch.ensures.count c.split_length-branch.ensures.rest in
    subst (λ n. n ≤ length c.split_length-branch.result.1.now) (sym t.1) t.3

-- the text of a key tells its branch after the lengths
pub returns-clause-branch : goal.returns-clause-branch
returns-clause-branch c =
    (tells-read c.args.self.now c.self.inside.text.items c.deref.result.now c.split_length-branch.result.1.now c.split_length-branch.result.0
    (c.self.invariant ∙ ap key_text c.self.view_is) c.deref.ensures.value c.split_length-branch.ensures.count c.split_length-branch.ensures.rest).0

-- the method is as long as the text of the key says
pub returns-clause-method : goal.returns-clause-method
returns-clause-method c =
    c.split_length-method.ensures.count
    ∙ (tells-read c.args.self.now c.self.inside.text.items c.deref.result.now c.split_length-branch.result.1.now c.split_length-branch.result.0
    (c.self.invariant ∙ ap key_text c.self.view_is) c.deref.ensures.value c.split_length-branch.ensures.count c.split_length-branch.ensures.rest).1

-- the text of a key tells its other texts after the branch
pub returns-clause-texts : goal.returns-clause-texts
returns-clause-texts c =
    c.split_length-method.ensures.rest
    ∙ (tells-read c.args.self.now c.self.inside.text.items c.deref.result.now c.split_length-branch.result.1.now c.split_length-branch.result.0
    (c.self.invariant ∙ ap key_text c.self.view_is) c.deref.ensures.value c.split_length-branch.ensures.count c.split_length-branch.ensures.rest).2
