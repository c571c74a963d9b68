mod PlaceLists
mod Overwriting
mod Results
mod Entries
