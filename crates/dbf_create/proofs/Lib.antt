-- Laws: what was laid out passes the table's checks, has no record, and lists the entries that were given, but for the offset
pub mod EmptyLaws
-- Laws: the descriptors that are copied from the lent list are the list's
pub mod CopyLaws
