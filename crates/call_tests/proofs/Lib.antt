mod Owing
