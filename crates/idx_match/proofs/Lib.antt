-- Laws: 0, 25 and 31 are answered exactly if document 01 says so; one answer meets the rule, the computed one
pub mod AnswerLaws
-- Laws: the refusals before the audit, one by one, and the answers of the calls
pub mod CallLaws
-- Laws: no deletion byte changes the answer
pub mod DeletionLaws
-- Laws: the test holds exactly if the entries match
pub mod TestLaws
