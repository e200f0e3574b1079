use Rattle.std.proofs.Common.{IfSome, option_copied, rules}
use Rattle.std.specs.Bool.{Decides}
use Rattle.sip_text.specs.declared.class.Class.TheVariants as class
use Rattle.sip_standard.specs.Text.{Many, OneOrMore}
use Rattle.sip_text.specs.inner.Class.{is_user_unreserved, is_password_unreserved}
use Rattle.sip_text.specs.inner.UriCut.{ClassChar}
use Rattle.sip_text.proofs.uris.UriCharLemmas.{if-some, decides-some, decides-many}
use Rattle.sip_text.proofs.uris.UriPartLemmas.{both-when, both-unless}
use Rattle.sip_text.proofs.uri.userinfo_fits.Goals as goal

-- the user fits, so the answer is whether the password does
pub returns-then-is_none_or : goal.returns-then-is_none_or
returns-then-is_none_or c =
    -- `user` and `password`: each test tells whether its part, if there is one, is characters of its class
    let user : Decides c.is_none_or.result (IfSome (option_copied c.args.cuts.now.user) (OneOrMore (ClassChar class.User))) = search rules in
    let password : Decides c.is_none_or-then-is_none_or.result (IfSome (option_copied c.args.cuts.now.password) (Many (ClassChar class.Password))) = search rules in
    both-when c.is_none_or.result c.is_none_or-then-is_none_or.result c.if-is_none_or.true
    (if-some (decides-some is_user_unreserved) _ _ user) (if-some (decides-many is_password_unreserved) _ _ password)

-- where the user does not fit, the answer is no
pub returns-else-is_none_or : goal.returns-else-is_none_or
returns-else-is_none_or c =
    let user : Decides c.is_none_or.result (IfSome (option_copied c.args.cuts.now.user) (OneOrMore (ClassChar class.User))) = search rules in
    both-unless c.is_none_or.result c.if-is_none_or.false (if-some (decides-some is_user_unreserved) _ _ user)
