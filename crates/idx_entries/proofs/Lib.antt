-- Laws: the bytes gathered for a page are read back as the rule's entries
pub mod FitLaws
-- Laws: the bytes gathered for a page are those of the rule's entries
pub mod GatherLaws
