use Rattle.sip_verdict.proofs.surveys.forgetting.Onward.{later_idle}
use Rattle.sip_verdict.proofs.forgetting_laws.what_is_idle_again_is_found_at_the_same_entries.Goals as goal

-- the law, that a forgotten transaction which was idle again is found at the same entries, is the lemma of two logs that go on with the same items
pub returns : goal.returns
returns c p kept key old items es others order not again sound seen saw = later_idle key p kept not old items es others order again sound seen saw
