-- Laws: which pages are left alone if pages are unlinked
pub mod AwayLaws
-- Laws: the clauses of a sound index for the order, and the theory's order, say the same
pub mod ClauseLaws
-- Laws: no page is met twice
pub mod DistinctLaws
-- Laws: demand 3 computed on a small list of calls, for features 0 and 1
pub mod Examples
-- Laws: the free list after a page joins it, and how it is read
pub mod FreeChainLaws
-- Laws: the pages taken and the pages left free
pub mod FreeListLaws
-- Laws: a call keeps an index sound and linked, and answers as the book does
pub mod IndexLaws
-- Laws: each page is in the tree once or on the free list once
pub mod IndexPages
-- Laws: the keeping of a header's features
pub mod KeepingOf
-- Laws: ascending leaf pairs by their keeping
pub mod KeepingLaws
-- Laws: the leaf that a route leads to tells whether a pair is present
pub mod LeafLaws
-- Laws: the entries of a store level by level, and the trees read there
pub mod Levels
-- Laws: a level is linked again after a new page
pub mod LinkLaws
-- Laws: lists that are not empty, joined lists, occurrences
pub mod ListLaws
-- Laws: it gives what the ascending list of the leaf pairs has; the pages it visits
pub mod LookupLaws
-- Laws: for features 0 that is the leaf with the greatest pair below it, or the first leaf
pub mod NearestLaws
-- Laws: a total order
pub mod OrderLaws
-- Laws: ordered trees; lookup in one is lookup in the ascending list of its pairs
pub mod Ordered
-- Laws: how many pages a file and a tree have
pub mod PageCount
-- Laws: lists of pairs
pub mod PairLaws
-- Laws: all records of a key, each once and none other
pub mod RecordLaws
-- Laws: the order of pairs by key, then record number
pub mod RecordOrder
-- Laws: F never shrinks, and is bounded by the pairs held; a key struck off and put in again is found
pub mod ReuseLaws
-- Laws: the entry gone through among those of its page, and what a route tells of a new pair
pub mod RouteLaws
-- Laws: a page that is split if it is over capacity
pub mod SplitLaws
-- Laws: the pages that are taken from the supply
pub mod SupplyLaws
-- Laws: keys with one above all, for trees whose last children have no key
pub mod Top
-- Laws: levels are linked again after pages are unlinked
pub mod UnlinkLaws
pub mod Book
pub mod Insertion
pub mod Removal
pub mod Store
-- Steps: what every call keeps of an index
pub mod SoundIndex
