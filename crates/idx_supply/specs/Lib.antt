-- The supply of new pages, in the order in which the parts rest on one another.

-- Rules: the supply of new pages
pub mod Supply
-- Steps: what the functions ask of a supply
pub mod Given
-- Laws: the supply after pages were taken
pub mod SupplyLaws
