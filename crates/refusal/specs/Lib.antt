-- Checks in their order, and what a call that writes leaves and answers.

-- Rules: the first check that fails decides
pub mod Checks
-- Laws: which check decides, and what holds if none does
pub mod CheckLaws
-- Rules: the numbers of the refusals, and an answer by number
pub mod Refusals
-- Laws: a number tells which refusal it is
pub mod RefusalLaws
-- Rules: a buffer after a call, and the answer
pub mod After
-- Laws: a call that writes is made or refused, by its checks
pub mod AfterLaws
