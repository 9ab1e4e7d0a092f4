-- The way of a key through the pages above the leaves, in the order in which the parts rest on one another.

-- Rules: which entry of a page above the leaves a pair goes under, and its child
pub mod Route
-- Steps: what the way of an entry meets at a page
pub mod Visits
-- Laws: an entry's child, the first leaf pair under an entry, and the route by the features
pub mod RouteLaws
-- Laws: what a visit says of the page, and a visit by its tests
pub mod VisitLaws
